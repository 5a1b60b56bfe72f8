-- What a boot loader has to know of a target.
use Rattle.target_lexicon.specs.{Queries.endianness, Queries.pointer_width, Values.Values}
use Rattle.uses.specs.declared.boot.ImageFacts.{ImageFacts}

abbrev pub image_facts : Values → ImageFacts
image_facts t = record { endianness = endianness t; pointer_width = pointer_width t; format = t.binary_format }
