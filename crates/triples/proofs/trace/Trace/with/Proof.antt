-- `with` makes a struct of no bytes from three references.
use Rattle.triples.proofs.{ !, [], agg, alive, alloc_all, call_of, done, emp, ends_at}
use Rattle.triples.proofs.{enter, free_all, fst∗, Goes-none_ref, Goes-none_slice, List, look_at, move, named, no_more}
use Rattle.triples.proofs.{owns, pass_all, plain, proved, pure_i, qed, raw, refl, returns, says, sets, shr_slice_Tells}
use Rattle.triples.proofs.{shr_slice_vals, shr_Tells, shr_vals, stay_none_ref, stay_none_slice, Stays, suffices}
use Rattle.triples.proofs.{tables, Trace, types_at, u8, Val, via, vnil, vstruct, walk_of, yes, ‵, ◌$◌, ◌∵◌, ◌∷◌}
use Rattle.triples.proofs.trace.Trace.with.Statement.{statement}
use Rattle.triples.specs.contracts.trace.{Outcome.the_row as S, Trace.the_row as R}
use Rattle.triples.specs.contracts.trace.Trace.with as f
use Rattle.triples.proofs.trace.Trace.with.Code as code

abbrev stayed : Stays f.ended.signature.params f.ended.kept
stayed = (
  stay_none_ref (0 ∷ []) tt (plain (λ _. R)) yes,
  (stay_none_ref (1 ∷ []) tt (plain (λ _. S)) yes, (stay_none_slice (2 ∷ []) tt (plain (λ _. u8)) yes, tt)),
)

pub with_spec : {M : Type 1} → statement M
with_spec 𝓤 𝓛 𝓜 𝓡 wired =
    let c = f.clauses 𝓛 𝓜.mem 𝓡.returns in let W = walk_of 𝓛 f.ended stayed c in let 𝓣 = tables 𝓤 𝓛.H 𝓜 𝓡 𝓡.env in
    proved 𝓛 f.ended stayed c 𝓜 𝓡 (
      Goes-none_ref 𝓛 3 (0 ∷ []) tt (plain (λ _. R)) yes,
      (
        Goes-none_ref 𝓛 3 (1 ∷ []) tt (plain (λ _. S)) yes,
        (Goes-none_slice 𝓛 3 (2 ∷ []) tt (plain (λ _. u8)) yes, tt),
      ),
    )
    f.Key.name code.function (code.unfolded 𝓤 𝓛.H 𝓜 𝓡 wired)
    (λ κs. (shr_vals, (shr_vals, (shr_slice_vals, tt))))
    (λ κs. (shr_Tells (named 0) κs.0 R, (shr_Tells (named 1) κs.1.0 S, (shr_slice_Tells (named 2) κs.1.1.0 u8, tt))))
    (λ κs qs bounds a n are.
    let vs : List Val × (List Val × (List Val × Unit {0})) =
    (shr_vals a.0, (shr_vals a.1.0, (shr_slice_vals a.1.1.0, tt))) in
    let made : Trace = record { calls = call_of a.1.0.now a.1.1.0.now ∷ a.0.now.calls } in
    let bound : W.Ghost = ((κs, qs, bounds, a, vs), n) in via 𝓤 _ (fst∗ 𝓤 _ (emp 𝓤)) (
    qed 𝓛 (raw (alive 𝓛 f.signature κs qs) ∷ ‵ (owns (types_at f.signature.params κs) a vs) ∷ []) ∵ enter ! 𝓣.C 𝓣.Λ
    code.function _ _ $
    alloc_all !
    (λ l. pass_all ! refl ((tt, tt), ((tt, tt), ((tt, (tt, (record { fits = are.1.1.0.0.1.0 }, tt))), tt))) $
    sets ! (agg ! (no_more !)) refl (tt, tt) $
    returns ! (look_at ! 0 refl) $ free_all ! refl $
    suffices ! _ (ends_at 𝓛 f.ended stayed c bound (vstruct vnil) made (tt, (tt, (tt, tt))) (tt, (tt, (tt, tt)))) $
    says ! refl $ pure_i ! (R.own_val made (vstruct vnil ∷ [])) ((λ vss. (tt, tt)), tt) ((tt, (refl, tt)), tt) $
    move ! (1 ∷ 2 ∷ 0 ∷ []) $ done !)))
