-- `new` makes the struct of no bytes, with count 0.
use Rattle.lexicon_fields.proofs.{Names.[], Names.refl, Names.◌∷◌, steps.Steps.new.Statement.statement}
use Rattle.std.proofs.raw_atomic.Walks.{proved}
use base.Logic.{emp, fst∗, via}
use contract.Running.{tables}
use denote.Triple.{Entry.alive, Walked.Stays, Walked.ends_at, Walked.says, Walked.walk_of}
use denote.{RattleType.owns, Shadow.pure_i}
use mir.Val.{vnil, vstruct}
use types.{ByLocal.alloc_all, ByLocal.free_all, ByLocal.look_at, ByLocal.pass_all, ByLocal.sets, Kit.done, Kit.suffices}
use types.{Kit.!, Kit.move, Kit.qed, Kit.raw, Kit.‵, Kit.◌$◌, Kit.◌∵◌, Part.agg, Run.enter, Run.no_more, Run.returns}
use Rattle.lexicon_fields.specs.contracts.steps.Steps.new as f
use Rattle.lexicon_fields.specs.contracts.steps.Steps as made
use Rattle.lexicon_fields.proofs.steps.Steps.new.Code as code

abbrev stayed : Stays (f.ended).signature.params (f.ended).kept
stayed = tt

pub new_spec : {M : Type 1} → statement M
new_spec 𝓤 𝓛 𝓜 𝓡 wired =
    let c = f.clauses 𝓛 𝓜.mem 𝓡.returns in let W = walk_of 𝓛 f.ended stayed c in let 𝓣 = tables 𝓤 𝓛.H 𝓜 𝓡 𝓡.env in
    proved 𝓛 f.ended stayed c 𝓜 𝓡 tt f.Key.name code.function (code.unfolded 𝓤 𝓛.H 𝓜 𝓡 wired) (λ κs. tt) (λ κs. tt)
    (λ κs qs bounds a n are.
    let bound : W.Ghost = ((κs, qs, bounds, a, tt), n) in via 𝓤 _ (fst∗ 𝓤 _ (emp 𝓤)) (
    qed 𝓛 (raw (alive 𝓛 f.signature κs qs) ∷ ‵ (owns [] a tt) ∷ []) ∵ enter ! 𝓣.C 𝓣.Λ code.function [] _ $
    alloc_all ! (λ l. pass_all ! refl tt $ sets ! (agg ! (no_more !)) refl (tt, tt) $ returns ! (look_at ! 0 refl) $
    free_all ! refl $
    suffices ! _ (ends_at 𝓛 f.ended stayed c bound (vstruct vnil) (record { count = 0 }) tt tt) $
    says ! refl $ pure_i ! (made.the_row.own_val (record { count = 0 }) (vstruct vnil ∷ [])) ((λ vss. (tt, tt)), tt)
    ((tt, (refl, tt)), tt) $
    move ! (1 ∷ 2 ∷ 0 ∷ []) $ done !)))
