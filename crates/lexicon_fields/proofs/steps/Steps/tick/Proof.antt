-- `tick` adds one to the count, which has no bytes.
use Rattle.lexicon_fields.proofs.{Names.[], Names.refl, Names.◌+◌, Names.◌∷◌, steps.Steps.tick.Statement.statement}
use denote.Triple.Walked.{Goes-ref, Stays, ends_at, says, stay_ref, walk_of}
use types.Kit.{ !, done, feq_i, frame, fsplit3, group, join, keep, move, qed, split, suffices, ‵, ◌$◌, ◌∵◌, ◌⊛◌}
use Rattle.{lexicon_fields.specs.contracts.steps.Steps.the_row as R, std.proofs.raw_atomic.Walks.proved}
use base.Fml.{flft, ftrue}
use denote.{Ref.MutRef, Ref.mut_Tells, Ref.mut_vals, Signature.plain, Steps.closes, Steps.nothing, Steps.opens}
use mir.{Syntax.named, Val.vunit}
use types.{ByLocal.alloc_all, ByLocal.free_all, ByLocal.look_at, ByLocal.pass_all, ByLocal.sets, Run.unit_lit}
use types.Run.{enter, of_opd, returns}
use Rattle.lexicon_fields.specs.contracts.steps.Steps.tick as f
use Rattle.lexicon_fields.proofs.steps.Steps.tick.Code as code

abbrev stayed : Stays f.ended.signature.params f.ended.kept
stayed = (stay_ref (0 ∷ []) tt (plain (λ _. R)), tt)

pub tick_spec : {M : Type 1} → statement M
tick_spec 𝓤 𝓛 𝓜 𝓡 wired =
    let c = f.clauses 𝓛 𝓜.mem 𝓡.returns in let W = walk_of 𝓛 f.ended stayed c in
    proved 𝓛 f.ended stayed c 𝓜 𝓡 (Goes-ref 𝓛 1 0 tt (plain (λ _. R)), tt)
    f.Key.name code.function (code.unfolded 𝓤 𝓛.H 𝓜 𝓡 wired)
    (λ κs. (mut_vals, tt)) (λ κs. (mut_Tells (named 0) κs.0 R, tt)) (λ κs qs bounds a _ are.
    let b = a.0.ref_ptr.0 in let o = a.0.ref_ptr.1 in let vs = mut_vals a.0 in
    let y : W.Ghost = ((κs, qs, bounds, a, (vs, tt)), tt) in
    qed 𝓛 (((‵ (flft κs.0 qs.0) ⊛ ‵ ftrue) ⊛ ‵ ((MutRef (named 0) κs.0 R).own_val a.0 vs) ⊛ ‵ ftrue) ∷ ‵ ftrue ∷ []) ∵
    split ! $ split ! $ move ! (2 ∷ []) $ split ! $ keep ! (0 ∷ 2 ∷ []) $
    enter ! _ _ _ _ _ $ alloc_all ! (λ l. pass_all ! refl ((tt, tt), tt) $
    fsplit3 ! $ move ! (1 ∷ 2 ∷ 3 ∷ []) $ opens ! tt R b o
    (λ us. closes ! tt R (record { count = a.0.now.count + 1 }) us b o $
    sets ! (of_opd ! (unit_lit !)) refl (tt, tt) $ returns ! (look_at ! 0 refl) $ free_all ! refl $ move ! (3 ∷ []) $
    suffices ! _ (ends_at 𝓛 f.ended stayed c y vunit tt (record { count = a.0.now.count + 1 }, tt) (tt, tt)) $
    says ! refl $
    group ! 3 $ nothing ! $ move ! (1 ∷ 0 ∷ []) $ join ! $ nothing ! $ move ! (2 ∷ 0 ∷ []) $ join ! $ frame !
    $ frame ! $
    feq_i ! _ (vunit ∷ []) _ refl $ done !)))
