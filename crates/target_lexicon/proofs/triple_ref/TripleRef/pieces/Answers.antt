use Rattle.target_lexicon.proofs.RoundTrips.Printing.{string_of_pieces}
use Rattle.target_lexicon.proofs.{ap, not, shows_operating_system, values_of_ref, ◌||◌, ◌≡◌}
use Rattle.target_lexicon.proofs.triple_ref.TripleRef.pieces.Goals as goal

pub returns-clause-text : goal.returns-clause-text
returns-clause-text c =
    let t = values_of_ref c.args.self.now in
    let system : not c.omits_unknown_system.result ≡ shows_operating_system t = ap not c.omits_unknown_system.ensures in
    string_of_pieces c.args.shows_last_three t c.name.result c.as_str.result c.prefix.result c.name-2.result
    c.name-3.result _ _ _ _ _ _ _ _ _ c.in_default.ensures c.name.ensures
    c.then_some.ensures c.shows_vendor.ensures c.as_str.ensures
    c.then_some-2.ensures (ap (λ b. c.args.shows_last_three || b) system) c.prefix.ensures c.version.ensures
    c.then_some-3.ensures (ap (λ b. c.args.shows_last_three || b) c.shows_environment.ensures) c.name-2.ensures
    c.then_some-4.ensures (ap (λ b. c.args.shows_last_three || b) c.shows_binary_format.ensures) c.name-3.ensures
