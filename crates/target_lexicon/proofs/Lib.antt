-- A map. The proof of a function, such as the law `round_is_normal_step`, is in the folder of its file and name,
-- laws/round_is_normal_step, and cites lemmas of the files here. Begin there, and go from lemma to lemma.
--
-- RoundTrips has lemmas of round trips, RoundTrips/Printing of printing, and RoundTrips/Printing/Parsing of parsing.
-- Each is below those that build on it, so that they have all of its names by one line. Names, below all, passes on the
-- definitions that proofs cite, and so does this file, for proofs of functions.
-- Data models: ModelsKnown. Hashing: HashInputPairs. JSON lists: Elements. Callers' proofs: OnLiterals, WordLengths.
pub mod Elements
pub mod HashInputPairs
pub mod ModelsKnown
pub mod OnLiterals
pub mod RoundTrips
pub mod WordLengths
unfoldable pub use RoundTrips.Printing.Parsing.Names.*
