use Rattle.target_lexicon.proofs.{Err, IfErr, List, Ok, RoundTrips.Printing.read_plain, inl, rules, ◌≡◌}
use Rattle.target_lexicon.proofs.{IsErrAnd, IsErrorOf, IsRefusedAs, OutOfMemory, ParseError, Refusal, Result, Triple, ℕ}
use Rattle.target_lexicon.proofs.triple.Triple.from_str.Goals as goal

-- parsing a refused string may run out of memory
refused-error : (text : List ℕ) (x : Refusal) → IsRefusedAs text x → (found : Result Triple ParseError)
    → IsErrAnd found (λ error. error ≡ OutOfMemory)
    → IfErr found (λ error. IsErrorOf text error)
refused-error text x h (Err error) same = rw same (inl (x, h))
refused-error text x h (Ok triple) same = absurd same

pub returns-in_err-to_error-in-Err-clause-err : goal.returns-in_err-to_error-in-Err-clause-err
returns-in_err-to_error-in-Err-clause-err c =
    refused-error c.args.text.now _ c.in-Err.ensures.err _ c.from_residual-in_err-to_error-in-Err.ensures.1

pub returns-in_ok-to_triple-in-Ok-clause-plain : goal.returns-in_ok-to_triple-in-Ok-clause-plain
returns-in_ok-to_triple-in-Ok-clause-plain c = search (rules, read_plain)
