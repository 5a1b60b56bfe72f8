use Rattle.target_lexicon.proofs.{json_of, map, take, values_of, view, ◌≡◌}
use Rattle.target_lexicon.proofs.json.list_to_json.Given as goal

abbrev pub invariant-loop-triple : goal.invariant-loop-triple
invariant-loop-triple l = map view l.values.items ≡ map json_of (map values_of (take l.triple-index l.triples))
