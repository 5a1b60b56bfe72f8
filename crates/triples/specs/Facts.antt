-- What mode `show` writes of a triple: the triple, printed, and four words.
use Rattle.std.specs.Prelude.{ℕ, List, ◌++◌, codes, Option, option_map, unwrap_or}
use Rattle.target_lexicon.specs.{CallingConvention.convention_name, DataModel.model_name, Printing.string_of}
use Rattle.target_lexicon.specs.{Values.Values}
use Rattle.target_lexicon.specs.Queries.{endianness_name, width_name, endianness, pointer_width, calling_convention}
use Rattle.target_lexicon.specs.Queries.{data_model}

-- a space and the word, `-` for none
abbrev pub spaced_word : Option (List ℕ) → List ℕ
spaced_word word = codes " " ++ unwrap_or word (codes "-")

-- the words for the byte order, pointer width, calling convention and data model of a triple
abbrev pub facts_of : Values → List ℕ
facts_of t =
    spaced_word (option_map endianness_name (endianness t)) ++ (spaced_word (option_map width_name (pointer_width t))
    ++ (spaced_word (option_map convention_name (calling_convention t))
    ++ spaced_word (option_map model_name (data_model t))))

-- a printed triple, and these words
abbrev pub text_with_facts : Values → List ℕ
text_with_facts t = string_of t ++ facts_of t
