-- Fields that are fed to a hasher one after another.
use Rattle.target_lexicon.proofs.{Architecture, HasVersionInRange, HashInjective, HashInjectiveOn, OperatingSystem}
use Rattle.target_lexicon.proofs.{BinaryFormat, Environment, HashWrites, VendorValue, arith, common_steps, values, ◌++◌}

-- the five fields of a triple, whose vendor has a type of its own
pub fields_distinguish : {T V : Type 0} {value : V → VendorValue} {feed_a : Architecture → HashWrites}
    {feed_v : V → HashWrites} {feed_s : OperatingSystem → HashWrites} {feed_e : Environment → HashWrites}
    {feed_f : BinaryFormat → HashWrites} (a : T → Architecture) (v : T → V) (s : T → OperatingSystem)
    (e : T → Environment) (f : T → BinaryFormat) → HashInjective feed_a
    → HashInjectiveOn (λ (x : V). Unit {0}) value feed_v
    → HashInjectiveOn HasVersionInRange (λ x. x) feed_s → HashInjective feed_e → HashInjective feed_f
    → HashInjectiveOn (λ t. HasVersionInRange (s t)) (λ t. values (a t) (value (v t)) (s t) (e t) (f t))
    (λ t. feed_a (a t) ++ (feed_v (v t) ++ (feed_s (s t) ++ (feed_e (e t) ++ feed_f (f t)))))
fields_distinguish a v s e f architecture vendor system environment format = grind (arith, common_steps)
