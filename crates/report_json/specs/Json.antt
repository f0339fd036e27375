-- The parts of a JSON text, with no space between them.
use Rattle.bstr.specs.Utf8.{lossy_chars}
use Rattle.std.specs.Fmt.{digits, signed_decimal}
use Rattle.std.specs.Prelude.{ℕ, ℤ, ◌==◌, nat_lt, if◌then◌else◌, false, Option, Some, None, List, [], ◌∷◌, ◌++◌, codes}
use Rattle.std.specs.Prelude.{decimal, encode_utf8, flat_map, map}
use Rattle.std.specs.List.{concat}

-- a string. Each that is told is a word of this project's own, with no quote, no backslash and no control character
abbrev pub quoted : List ℕ → List ℕ
quoted text = codes "\"" ++ (text ++ codes "\"")

-- a number that may have more than 64 bits: a string, since many readers keep numbers in fewer
abbrev pub wide : ℕ → List ℕ
wide number = quoted (decimal number)

-- the same, with a sign where it is below 0
abbrev pub signed_wide : ℤ → List ℕ
signed_wide number = quoted (signed_decimal number)

-- a number, or null
abbrev pub number_or_null : Option ℕ → List ℕ
number_or_null None = codes "null"
number_or_null (Some number) = decimal number

-- the first member of an object
abbrev pub member : List ℕ → List ℕ → List ℕ
member key value = quoted key ++ (codes ":" ++ value)

-- a further one
abbrev pub also : List ℕ → List ℕ → List ℕ
also key value = codes "," ++ member key value

-- a sign of a string of any bytes: a quote, a backslash and a control character are escaped
abbrev pub sign_of : ℕ → List ℕ
sign_of sign =
    if sign == 34 then codes "\\\""
    else if sign == 92 then codes "\\\\"
    else if nat_lt sign 16 then codes "\\u000" ++ digits 16 false sign
    else if nat_lt sign 32 then codes "\\u00" ++ digits 16 false sign
    else encode_utf8 sign

-- a string of any bytes; what isn't UTF-8 in them is U+FFFD there
abbrev pub string_of : List ℕ → List ℕ
string_of bytes = quoted (flat_map sign_of (lossy_chars bytes))

-- an object with these members
abbrev pub object : List ℕ → List ℕ
object members = codes "{" ++ (members ++ codes "}")

-- further elements of an array
abbrev pub further : {A : Type 0} → (A → List ℕ) → List A → List ℕ
further text elements = concat (map (λ element. codes "," ++ text element) elements)

-- an array, by the text of each element
abbrev pub array_of : {A : Type 0} → (A → List ℕ) → List A → List ℕ
array_of text [] = codes "[]"
array_of text (first ∷ others) = codes "[" ++ (text first ++ (further text others ++ codes "]"))
