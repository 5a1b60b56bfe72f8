-- What was written is the output of the mode, and a flush keeps it.
use Rattle.triples.proofs.{as-error, is-text}
use Rattle.triples.proofs.{no-output-ends, refl, rules, takes-all, takes-kept, takes-none, write-ends, written-ends}
use Rattle.triples.proofs.run.run.Goals as goal

pub returns-in_err-output : goal.returns-in_err-output
returns-in_err-output g c =
    let line = c.in-Ok.ensures.cases in
    let read = is-text c.in_ok-bytes.ensures.bytes c.in_ok-bytes.ensures.whole c.deref.ensures.value line.0 line.1 in
    record {
      ends =
          as-error c.from_residual-in_err-output.result c.from_residual-in_err-output.ensures.1
          (no-output-ends read c.in_err-output.ensures.err takes-none refl);
    }

pub returns-in_err-write_all : goal.returns-in_err-write_all
returns-in_err-write_all g c = search (rules, is-text, as-error, write-ends)

pub returns-in-Ok-flush : goal.returns-in-Ok-flush
returns-in-Ok-flush g c = search (rules, written-ends, takes-kept, is-text) depth 7 fits 3000

pub returns : goal.returns
returns g c = search (rules, is-text, write-ends, takes-all, takes-kept)
