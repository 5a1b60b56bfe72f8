use Rattle.lexicon_fields.proofs.Names.{length-row_texts, row_texts_sorted, rows-complete}
use Rattle.lexicon_fields.proofs.laws.rows_are_sorted_and_complete.Goals as goal

pub returns : goal.returns
returns c =
    record {
      sorted = row_texts_sorted;
      count = length-row_texts;
      whole = λ text. let both = rows-complete text in
          (both.1, both.0);
    }
