use Rattle.triples.proofs.{append-nil, if_stays, none-passes, one-passes, rules, staying-push}
use Rattle.triples.proofs.laws.first_entries_stay_in_order.Goals as goal

pub returns : goal.returns
returns c = search (rules, staying-push, if_stays, none-passes, one-passes, append-nil)
