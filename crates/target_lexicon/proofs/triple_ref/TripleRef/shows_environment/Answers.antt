use Rattle.target_lexicon.proofs.{RoundTrips.Printing.other_environment_shown, values_of_ref}
use Rattle.target_lexicon.proofs.triple_ref.TripleRef.shows_environment.Goals as goal

pub returns-in_default : goal.returns-in_default
returns-in_default c =
    other_environment_shown (values_of_ref c.args.self.now) c.in_default.not-Unknown c.in_default.not-Newlib
