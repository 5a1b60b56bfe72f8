-- Laws of names, queries, versions, equality and hashing.
use Rattle.std.specs.Prelude.{◌≡◌, ◌↔◌, ◌++◌, ℕ, ◌+◌, ◌<◌, ◌≤◌, ◌^◌, Bool, true, List, length, Option, Some, IfSome}
use Rattle.std.specs.Prelude.{IsTrue}
use Rattle.std.specs.Hash.{HashWrites}
use Rattle.std.specs.Ordering.{nat_cmp, on, then_cmp}
use Rattle.std.specs.declared.cmp.Ordering.{Ordering}
use Rattle.lexicon_fields.specs.{declared.deployment_target.DeploymentTarget.DeploymentTarget}
use Rattle.lexicon_fields.specs.{declared.operating_system.OperatingSystem.OperatingSystem, Names.is_dash_free}
use Rattle.lexicon_fields.specs.OperatingSystem.{system_version}

-- each value of this kind parses back from its name, and neither such a name nor any string that parses as a value has
-- a dash
pub record NamesReadBackOn {V : Type 0} (IsOfKind : V → Type 0) (name : V → List ℕ)
    (find : List ℕ → Option V) : Type 0 where
  pub reads_back : (v : V) → IsOfKind v → find (name v) ≡ Some v
  pub name_dash_free : (v : V) → IsOfKind v → is_dash_free (name v) ≡ true
  pub text_dash_free : (text : List ℕ) (v : V) → find text ≡ Some v → is_dash_free text ≡ true

-- each value of the type does
abbrev pub NamesReadBack : {V : Type 0} → (V → List ℕ) → (List ℕ → Option V) → Type 0
NamesReadBack {V} name find = NamesReadBackOn (λ (v : V). Unit {0}) name find

-- a string that parses as a value is its name
abbrev pub TextsAreNames : {V : Type 0} → (V → List ℕ) → (List ℕ → Option V) → Type 0
TextsAreNames {V} name find = (text : List ℕ) (v : V) → find text ≡ Some v → name v ≡ text

-- the name of a value is at most this many bytes longer than a string that parses as it
abbrev pub NamesGrowAtMost : ℕ → {V : Type 0} → (V → List ℕ) → (List ℕ → Option V) → Type 0
NamesGrowAtMost bytes {V} name find =
    (text : List ℕ) (v : V) → find text ≡ Some v → length (name v) ≤ length text + bytes

-- the length of the longest name that is no custom vendor's, such as that of a system with a version of 13 bytes
abbrev pub max_name_length : ℕ
-- written by tools/names/write: max_name_length
max_name_length = 21

-- end of what is written

-- no value's name is longer
abbrev pub NamesAreShort : {V : Type 0} → (V → List ℕ) → Type 0
NamesAreShort {V} name = (v : V) → length (name v) ≤ max_name_length

-- a version whose numbers fit their fields
abbrev pub IsVersionInRange : DeploymentTarget → Type 0
IsVersionInRange v = (v.major < 2 ^ 16) × (v.minor < 2 ^ 8) × (v.patch < 2 ^ 8)

-- an operating system whose version, if it has one, is in range
abbrev pub HasVersionInRange : OperatingSystem → Type 0
HasVersionInRange s = IfSome (system_version s) IsVersionInRange

-- the order of versions: by major, then minor, then patch
abbrev pub version_cmp : DeploymentTarget → DeploymentTarget → Ordering
version_cmp = then_cmp (on (λ v. v.major) nat_cmp) (then_cmp (on (λ v. v.minor) nat_cmp) (on (λ v. v.patch) nat_cmp))

-- two values compare equal if and only if they are the same
abbrev pub ComparesByValue : {V : Type 0} → (V → V → Bool) → Type 0
ComparesByValue {V} eq = (x y : V) → IsTrue (eq x y) ↔ (x ≡ y)

-- a copy is its source, and copying allocates nothing
abbrev pub CopiesEqualTheirSources : {V : Type 0} → (V → V → Type 0) → (V → Type 0) → Type 0
CopiesEqualTheirSources {V} IsCopy NeedsNoMemory =
    (source : V) → NeedsNoMemory source × ((copy : V) → IsCopy source copy → copy ≡ source)

-- two values of this kind feed a hasher the same if and only if what they represent is the same, and what is fed after
-- them, such as the next field of a struct, can be distinguished from what they feed
pub record HashInjectiveOn {V W : Type 0} (IsOfKind : V → Type 0) (value : V → W) (feed : V → HashWrites) : Type 0 where
  pub exactly : (x y : V) → IsOfKind x → IsOfKind y → (feed x ≡ feed y) ↔ (value x ≡ value y)
  pub with_more : (x y : V) (a b : HashWrites) → IsOfKind x → IsOfKind y → feed x ++ a ≡ feed y ++ b
      → (value x ≡ value y) × (a ≡ b)

-- this holds for each value of the type, which represents itself
abbrev pub HashInjective : {V : Type 0} → (V → HashWrites) → Type 0
HashInjective {V} feed = HashInjectiveOn (λ (v : V). Unit {0}) (λ (v : V). v) feed
