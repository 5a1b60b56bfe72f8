-- What was written before an error is a beginning of the line.
use Rattle.triples.proofs.{[], line_feed, rules, takes-all, takes-kept, takes-more, takes-part, takes-then, ◌∷◌}
use Rattle.triples.proofs.run.write_line.Goals as goal

pub returns-in_err-write_all-clause-begun : goal.returns-in_err-write_all-clause-begun
returns-in_err-write_all-clause-begun g c = search (rules, takes-more)

pub returns-in_err-write_all-2-clause-begun : goal.returns-in_err-write_all-2-clause-begun
returns-in_err-write_all-2-clause-begun g c =
    let first = rw c.as_bytes.ensures.value at c.in_ok-write_all.ensures.whole in
    let second = rw c.as_bytes-2.ensures.value at c.in_err-write_all-2.ensures.begun in
    takes-part _ first (takes-more c.args.rest.now (line_feed ∷ []) second)

pub returns-in_err-write_all-3-clause-begun : goal.returns-in_err-write_all-3-clause-begun
returns-in_err-write_all-3-clause-begun g c =
    let first = rw c.as_bytes.ensures.value at c.in_ok-write_all.ensures.whole in
    let second = rw c.as_bytes-2.ensures.value at c.in_ok-write_all-2.ensures.whole in
    takes-part _ first (takes-part (line_feed ∷ []) second c.in_err-write_all-3.ensures.begun)

pub returns-in_default-clause-begun : goal.returns-in_default-clause-begun
returns-in_default-clause-begun g c =
    let first = rw c.as_bytes.ensures.value at c.in_ok-write_all.ensures.whole in
    let second = rw c.as_bytes-2.ensures.value at c.in_ok-write_all-2.ensures.whole in
    let line = takes-then first (takes-then second c.in_ok-write_all-3.ensures.whole) in
    takes-all (takes-kept line c.flush.ensures.bytes c.flush.ensures.moved)

pub returns-clause-whole : goal.returns-clause-whole
returns-clause-whole g c =
    let first = rw c.as_bytes.ensures.value at c.in_ok-write_all.ensures.whole in
    let second = rw c.as_bytes-2.ensures.value at c.in_ok-write_all-2.ensures.whole in
    let line = takes-then first (takes-then second c.in_ok-write_all-3.ensures.whole) in
    takes-kept line c.flush.ensures.bytes c.flush.ensures.moved

pub returns-clause-begun : goal.returns-clause-begun
returns-clause-begun g c = takes-all (returns-clause-whole g c)
