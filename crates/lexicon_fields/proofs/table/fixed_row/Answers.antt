-- The row that is found has the string, what each field reads it as, and the ticks of the search.
use Rattle.lexicon_fields.proofs.Names.{arith, row-parses_by_name, row_read, search-few, search-some}
use Rattle.lexicon_fields.proofs.table.fixed_row.Goals as goal

pub returns-clause-row : goal.returns-clause-row
returns-clause-row c = grind (arith, row_read, row-parses_by_name)

pub returns-in_err-text-clause-counted : goal.returns-in_err-text-clause-counted
returns-in_err-text-clause-counted c = omega (arith, search-some)

pub returns-in_err-text-clause-few : goal.returns-in_err-text-clause-few
returns-in_err-text-clause-few c = grind (arith, search-few)

pub returns-clause-counted : goal.returns-clause-counted
returns-clause-counted c = omega (arith, search-some)

pub returns-clause-few : goal.returns-clause-few
returns-clause-few c = grind (arith, search-few)
