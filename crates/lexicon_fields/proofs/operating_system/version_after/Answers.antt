-- What follows the prefix is empty, a version, or refused, as `version_after` says of a string with the prefix.
use Rattle.lexicon_fields.proofs.Names.{has_no_prefix, has_prefix, rules}
use Rattle.lexicon_fields.specs.Private.{version_after}
use Rattle.lexicon_fields.proofs.operating_system.version_after.Goals as goal

pub returns-in_err-rest : goal.returns-in_err-rest
unfolding version_after
returns-in_err-rest c = search (rules, has_no_prefix)

pub returns-then-is_empty : goal.returns-then-is_empty
unfolding version_after
returns-then-is_empty c = search (rules, has_prefix)

pub returns-in_err-from_text : goal.returns-in_err-from_text
unfolding version_after
returns-in_err-from_text c = search (rules, has_prefix)

pub returns : goal.returns
unfolding version_after
returns c = search (rules, has_prefix)
