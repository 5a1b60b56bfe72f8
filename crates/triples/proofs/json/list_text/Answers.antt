use Rattle.triples.proofs.{no_float, rules}
use Rattle.triples.proofs.json.list_text.Goals as goal

pub returns : goal.returns
returns c = search (rules, no_float)
