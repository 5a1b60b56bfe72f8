-- The JSON values of triples and of lists of triples, and how a JSON value parses.
use Rattle.std.specs.Prelude.{◌≡◌, ℕ, ◌<◌, List, [], ◌∷◌, ◌++◌, map, Option, None, MatchOption, codes, decimal}
use Rattle.std.specs.Option.{option_map_or}
use Rattle.serde_json.specs.Data.{Data, string, array, Items, no_items, item}
use Rattle.serde_json.specs.Find.{as_str, as_array, get_item}
use Rattle.serde_json.specs.View.{items_of}
use Rattle.target_lexicon.specs.{declared.json_error.JsonError.JsonError, declared.list_error.ListError.ListError}
use Rattle.target_lexicon.specs.{Printing.string_of, Parsing.ParsesAs, Parsing.IsRefusedAs, Parsing.MayAllocate}
use Rattle.target_lexicon.specs.{Refusal.Refusal, Refusal.refusal_of, Refusal.refusal_line, Values.Values}
use Rattle.target_lexicon.specs.declared.json_error.JsonError.TheVariants as json_error
use Rattle.target_lexicon.specs.declared.list_error.ListError.TheVariants as list_error

-- the value of a triple: its printed string
abbrev pub json_of : Values → Data
json_of t = string (string_of t)

-- the value of a list: the array of its triples' values, in order
abbrev pub list_json_of : List Values → Data
list_json_of ts = array (items_of (map json_of ts))

-- a JSON string parses as the string in it does, and no other value parses
abbrev pub JsonParsesAs : Data → Values → Type 0
JsonParsesAs value t = MatchOption (as_str value) ⊥ (λ text. ParsesAs text t)

-- what an error says about a value: it is no JSON string, or the string is refused, or (without a refusal) memory ran
-- out
pub data JsonErrorValue : Type 0 where
  NotText : JsonErrorValue
  Parse : Option Refusal → JsonErrorValue

abbrev pub json_error_value : JsonError → JsonErrorValue
json_error_value json_error.NotText = NotText
json_error_value (json_error.Parse error) = Parse (refusal_of error)

-- why a value doesn't parse: it is no JSON string, or the string is refused, or an allocation failed where the string
-- may allocate
abbrev pub IsJsonErrorOf : Data → JsonErrorValue → Type 0
IsJsonErrorOf value NotText = as_str value ≡ None
IsJsonErrorOf value (Parse refusal) =
    MatchOption (as_str value) ⊥ (λ text. MatchOption refusal (MayAllocate text) (IsRefusedAs text))

-- the elements parse as these triples, in order
abbrev pub ElementsParseAs : Items → List Values → Type 0
ElementsParseAs no_items [] = Unit {0}
ElementsParseAs no_items (t ∷ ts) = ⊥
ElementsParseAs (item value values) [] = ⊥
ElementsParseAs (item value values) (t ∷ ts) = JsonParsesAs value t × ElementsParseAs values ts

-- an array parses as the list of its elements' triples, and no other value parses as a list
abbrev pub ListParsesAs : Data → List Values → Type 0
ListParsesAs value ts = MatchOption (as_array value) ⊥ (λ elements. ElementsParseAs elements ts)

-- the element at i, counted from 0, parses
abbrev pub IsElementParsed : Items → ℕ → Type 0
IsElementParsed elements i = MatchOption (get_item i elements) ⊥ (λ value. (t : Values) × JsonParsesAs value t)

-- the element at i has this error, and each earlier one parses
pub record IsFirstError (elements : Items) (i : ℕ) (error : JsonErrorValue) : Type 0 where
  pub here : MatchOption (get_item i elements) ⊥ (λ value. IsJsonErrorOf value error)
  pub before : (k : ℕ) → k < i → IsElementParsed elements k

-- what an error says about a list: it is not a list, or the first element that doesn't parse, or an allocation for it
-- failed
pub data ListErrorValue : Type 0 where
  NotList : ListErrorValue
  Element : ℕ → JsonErrorValue → ListErrorValue
  OutOfMemory : ListErrorValue

abbrev pub list_error_value : ListError → ListErrorValue
list_error_value list_error.NotList = NotList
list_error_value (list_error.Element i error) = Element i (json_error_value error)
list_error_value list_error.OutOfMemory = OutOfMemory

-- why a value doesn't parse as a list; the list itself is allocated only after an element that parses
abbrev pub IsListErrorOf : Data → ListErrorValue → Type 0
IsListErrorOf value NotList = as_array value ≡ None
IsListErrorOf value (Element i error) = MatchOption (as_array value) ⊥ (λ elements. IsFirstError elements i error)
IsListErrorOf value OutOfMemory = MatchOption (as_array value) ⊥ (λ elements. IsElementParsed elements 0)

-- the line of an error of a value
abbrev pub json_error_line : JsonErrorValue → List ℕ
json_error_line NotText = codes "Not a text"
json_error_line (Parse refusal) = option_map_or refusal_line refusal (codes "Out of memory")

-- the line of an error of a list
abbrev pub list_error_line : ListErrorValue → List ℕ
list_error_line NotList = codes "Not a list"
list_error_line (Element i error) = codes "Element " ++ (decimal i ++ (codes ": " ++ json_error_line error))
list_error_line OutOfMemory = codes "Out of memory"
