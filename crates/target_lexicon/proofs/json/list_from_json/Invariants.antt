-- The elements so far parse as the triples so far.
use Rattle.target_lexicon.proofs.{All, ElementsParseAs, OwnsCustomString, is_plain, items_view, values_of, vendor_value}
use Rattle.target_lexicon.proofs.{map, take, true, ◌≡◌}
use Rattle.target_lexicon.proofs.json.list_from_json.Given as goal

abbrev pub invariant-loop-i : goal.invariant-loop-i
invariant-loop-i l = record {
  read : ElementsParseAs (items_view (take l.i l.element-items)) (map values_of l.triples.items);
  owned : All (λ triple. OwnsCustomString triple.vendor) l.triples.items;
  plain : All (λ triple. is_plain (vendor_value triple.vendor) ≡ true) l.triples.items;
}
