-- Each way out of the code is one case of `version_of`: how many pieces there are, and whether each is a number in
-- range.
use Rattle.lexicon_fields.proofs.Names.{arith, parsed, pieces-last, pieces-more, pieces_of-some, refl}
use Rattle.lexicon_fields.proofs.deployment_target.DeploymentTarget.from_text.Goals as goal

pub returns-in_default : goal.returns-in_default
returns-in_default c =
    let none = parsed 16 65535 c.first_piece.result.0.now _ _ refl c.parse-major.ensures.value.0 c.in_default.is in
    grind arith

pub returns-in_default-after_major : goal.returns-in_default-after_major
returns-in_default-after_major c =
    let major = parsed 16 65535 c.first_piece.result.0.now _ _ refl c.parse-major.ensures.value.0 c.in-Ok.is in
    grind arith

pub returns-in_default-minor : goal.returns-in_default-minor
returns-in_default-minor c =
    let none = parsed 8 255 c.first_piece-2.result.0.now _ _ refl c.parse-minor.ensures.value.0 c.in_default-minor.is in
    grind (arith, pieces-more)

pub returns-in_default-after_minor : goal.returns-in_default-after_minor
returns-in_default-after_minor c =
    let major = parsed 16 65535 c.first_piece.result.0.now _ _ refl c.parse-major.ensures.value.0 c.in-Ok.is in
    let minor = parsed 8 255 c.first_piece-2.result.0.now _ _ refl c.parse-minor.ensures.value.0 c.in-Ok-minor.is in
    grind (arith, pieces-last, pieces-more)

pub returns-in_default-patch : goal.returns-in_default-patch
returns-in_default-patch c =
    let none = parsed 8 255 c.first_piece-3.result.0.now _ _ refl c.parse-patch.ensures.value.0 c.in_default-patch.is in
    grind (arith, pieces-more)

pub returns-in-Some-after_patch : goal.returns-in-Some-after_patch
returns-in-Some-after_patch c = grind (arith, pieces-last, pieces-more, pieces_of-some)

pub returns-in-None : goal.returns-in-None
returns-in-None c =
    let major = parsed 16 65535 c.first_piece.result.0.now _ _ refl c.parse-major.ensures.value.0 c.in-Ok.is in
    let minor = parsed 8 255 c.first_piece-2.result.0.now _ _ refl c.parse-minor.ensures.value.0 c.in-Ok-minor.is in
    let patch = parsed 8 255 c.first_piece-3.result.0.now _ _ refl c.parse-patch.ensures.value.0 c.in-Ok-patch.is in
    grind (arith, pieces-last, pieces-more)
