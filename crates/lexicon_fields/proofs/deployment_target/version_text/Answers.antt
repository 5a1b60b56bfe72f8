-- Three numbers with dots between are put one after the other: what is put is the name of the version, fits, and is
-- ASCII.
use Rattle.lexicon_fields.proofs.Names.{DeploymentTarget, IsVersionInRange, length-version, numbers-short, version_name}
use Rattle.lexicon_fields.proofs.Names.{List, Puts, arith, decimal, dot, put_taken, puts_then, rules, take, ℕ, ◌∙◌, ◌∷◌}
use Rattle.std.proofs.lemmas.{Fmt.IsAscii-decimal, Str.IsAscii-append, Str.IsUtf8-from_ascii}
use Rattle.{lexicon_fields.proofs.Names.◌≡◌, std.specs.Str.IsUtf8}
use Rattle.lexicon_fields.proofs.deployment_target.version_text.Goals as goal

-- digits and dots are UTF-8
version-utf8 : (v : DeploymentTarget) (text : List ℕ) → IsVersionInRange v → text ≡ version_name v → IsUtf8 text
version-utf8 v text (major, minor, patch) is =
    rw is (IsUtf8-from_ascii (version_name v) (search (rules, arith, IsAscii-append, IsAscii-decimal) depth 8))

-- the three numbers put one after the other are the version
version-taken : (v : DeploymentTarget) (major : ℕ) {old first second now : List ℕ} {i j k : ℕ} → major ≡ v.major
    → Puts (decimal major) old 0 first i
    → Puts (dot ∷ decimal v.minor) first i second j → Puts (dot ∷ decimal v.patch) second j now k
    → take k now ≡ version_name v
version-taken v major is p q r = put_taken (puts_then (rw is at p) (puts_then q r))

pub put_decimal-major_end-requires : goal.put_decimal-major_end-requires
put_decimal-major_end-requires c = search (rules, numbers-short)

pub put_dotted-minor_end-requires : goal.put_dotted-minor_end-requires
put_dotted-minor_end-requires c = search (rules, numbers-short)

pub put_dotted-patch_end-requires : goal.put_dotted-patch_end-requires
put_dotted-patch_end-requires c = search (rules, puts_then, numbers-short)

pub shared_ref_as_front-text : goal.shared_ref_as_front-text
shared_ref_as_front-text c = search (rules, puts_then, length-version, numbers-short)

pub unreachable-requires : goal.unreachable-requires
unreachable-requires c =
    c.in-Err.ensures.cases.0 (version-utf8 c.args.version _ (search rules) (search (rules, version-taken)))

pub returns-clause-text : goal.returns-clause-text
returns-clause-text c = c.in-Ok.ensures.cases.0 ∙ search (rules, version-taken)
