-- `new` makes the struct of no bytes, of no calls.
use Rattle.triples.proofs.{ !, [], agg, alive, alloc_all, done, emp, ends_at, enter}
use Rattle.triples.proofs.{free_all, fst∗, look_at, move, no_more, owns, pass_all, proved, pure_i, qed, raw, refl}
use Rattle.triples.proofs.{returns, says, sets, Stays, suffices, tables, via, vnil, vstruct, walk_of, ‵, ◌$◌, ◌∵◌, ◌∷◌}
use Rattle.triples.proofs.trace.Trace.new.Statement.{statement}
use Rattle.triples.specs.contracts.trace.Trace.new as f
use Rattle.triples.specs.contracts.trace.Trace as made
use Rattle.triples.proofs.trace.Trace.new.Code as code

abbrev stayed : Stays (f.ended).signature.params (f.ended).kept
stayed = tt

pub new_spec : {M : Type 1} → statement M
new_spec 𝓤 𝓛 𝓜 𝓡 wired =
    let c = f.clauses 𝓛 𝓜.mem 𝓡.returns in let W = walk_of 𝓛 f.ended stayed c in let 𝓣 = tables 𝓤 𝓛.H 𝓜 𝓡 𝓡.env in
    proved 𝓛 f.ended stayed c 𝓜 𝓡 tt f.Key.name code.function (code.unfolded 𝓤 𝓛.H 𝓜 𝓡 wired) (λ κs. tt) (λ κs. tt)
    (λ κs qs bounds a n are.
    let bound : W.Ghost = ((κs, qs, bounds, a, tt), n) in via 𝓤 _ (fst∗ 𝓤 _ (emp 𝓤)) (
    qed 𝓛 (raw (alive 𝓛 f.signature κs qs) ∷ ‵ (owns [] a tt) ∷ []) ∵ enter ! 𝓣.C 𝓣.Λ code.function [] _ $
    alloc_all !
    (λ l. pass_all ! refl tt $ sets ! (agg ! (no_more !)) refl (tt, tt) $ returns ! (look_at ! 0 refl) $
    free_all ! refl $
    suffices ! _ (ends_at 𝓛 f.ended stayed c bound (vstruct vnil) (record { calls = [] }) tt tt) $
    says ! refl $
    pure_i ! (made.the_row.own_val (record { calls = [] }) (vstruct vnil ∷ [])) ((λ vss. (tt, tt)), tt)
    ((tt, (refl, tt)), tt) $
    move ! (1 ∷ 2 ∷ 0 ∷ []) $ done !)))
