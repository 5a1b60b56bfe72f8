use Rattle.target_lexicon.proofs.{ModelsKnown.chosen, inl, inr, pointer_width}
use Rattle.target_lexicon.proofs.laws.no_rare_model.Goals as goal

pub returns : goal.returns
returns c t =
    let known = chosen (pointer_width t) t.architecture t.operating_system in (
      λ rare. elim (known _ rare).1 [ inl is ↦ cc | inr other ↦ elim other [ inl is ↦ cc | inr is ↦ cc ] ],
      λ rare. elim (known _ rare).1 [ inl is ↦ cc | inr other ↦ elim other [ inl is ↦ cc | inr is ↦ cc ] ],
    )
