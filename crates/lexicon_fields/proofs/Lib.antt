-- A map. The proof of a function, such as the law `names_read_back`, is in the folder of its file and name,
-- laws/names_read_back, and cites lemmas of the files here. Begin there, and with the record `NamesAreRead` of Names,
-- which the crates above cite.
--
-- Names: what a look-up says of a string; versions, systems and vendors, which parse back from their names; what is
-- known of a parsed system; which strings have a row; strings put one after the other into a buffer.
-- Names.Table: the table of names. Its strings and their keys are in order, and the search finds each row.
-- Names.Table.Common: the names that most proofs cite. Each of these files passes on those of the file below it.
-- Values: two values of one variant; `==` is true exactly for the same values; different values feed a hasher
-- differently.
pub mod Names
pub mod Values
