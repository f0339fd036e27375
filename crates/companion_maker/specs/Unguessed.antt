-- The companion that guesses nothing: nobody stands anywhere, and nothing is claimed (this project's companion format).
use Rattle.std.specs.Prelude.{ℕ, List, [], ◌∷◌, ◌++◌, codes, map}
use Rattle.companion_file.specs.Spelling.{spaced}

-- the numbers of the processors
abbrev pub floor_words : List (List ℕ)
floor_words = codes "0" ∷ codes "1" ∷ codes "2" ∷ codes "3" ∷ codes "4" ∷ codes "5" ∷ codes "6" ∷ codes "7" ∷ codes "8"
    ∷ codes "9" ∷ codes "10" ∷ codes "11" ∷ codes "12" ∷ codes "13" ∷ codes "14" ∷ codes "15" ∷ codes "16" ∷ codes "17"
    ∷ codes "18" ∷ codes "19" ∷ codes "20" ∷ codes "21" ∷ codes "22" ∷ codes "23" ∷ codes "24" ∷ codes "25" ∷ codes "26"
    ∷ codes "27" ∷ codes "28" ∷ codes "29" ∷ codes "30" ∷ codes "31" ∷ codes "32" ∷ codes "33" ∷ codes "34" ∷ codes "35"
    ∷ codes "36" ∷ codes "37" ∷ codes "38" ∷ codes "39" ∷ codes "40" ∷ codes "41" ∷ codes "42" ∷ codes "43" ∷ codes "44"
    ∷ codes "45" ∷ codes "46" ∷ codes "47" ∷ codes "48" ∷ codes "49" ∷ codes "50" ∷ codes "51" ∷ codes "52" ∷ codes "53"
    ∷ codes "54" ∷ codes "55" ∷ codes "56" ∷ codes "57" ∷ codes "58" ∷ codes "59" ∷ codes "60" ∷ codes "61" ∷ codes "62"
    ∷ codes "63" ∷ []

-- the line of a floor at 0
abbrev pub floor_text : List ℕ → List ℕ
floor_text word = spaced (codes "floor" ∷ word ∷ codes "0" ∷ [])

-- its lines: 64 processors, the start at 0, each floor at 0
abbrev pub plain_lines : List (List ℕ)
plain_lines = codes "cfs-companion 2" ∷ codes "cpus 64" ∷ codes "start 0.000000" ∷ map floor_text floor_words

-- lines as a text
abbrev pub unlined : List (List ℕ) → List ℕ
unlined [] = []
unlined (line ∷ lines) = line ++ 10 ∷ unlined lines

-- the plain companion
unfoldable pub plain : List ℕ
plain = unlined plain_lines
