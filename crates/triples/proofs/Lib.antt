-- A map. The proof of a function is in the folder of its file and name: laws/filters_agree_with_runs has that of this
-- law, and cites a lemma of the files here; run/run and filter/filter have those of the two calls that the program
-- makes. Begin with a law, and go from lemma to lemma.
--
-- Each file of lemmas is a child of the one that cites it, and passes on all names: an answer imports them from here.
-- Filters: the laws; answers in a buffer, and the lines that were answered so far; a filter between its reads, and its
-- ends.
-- Filters/Runs: what reads gave and writes took; the laws; that each input has an outcome.
-- Filters/Runs/Outputs: the lines of an input, and the answers to them; that an input has at most one output; the laws
-- of mode `matrix`.
-- Filters/Runs/Outputs/Names: the names of other modules that the proofs cite.
pub mod Filters
pub use Filters.*
