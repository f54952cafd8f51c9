-- What the methods of texts give (ECMA-262 second edition, 15.5.4.4 to 15.5.4.10, on places that aren't
-- moved into the range of the text, which is this project's own).
use Rattle.std.specs.Prelude.{ℕ, zero, suc, ◌+◌, ◌-◌, nat_eq, nat_le, nat_lt, min, Bool, false, if◌then◌else◌, pos, negsuc, List, [], ◌∷◌, length, map, filter, take, drop, Option, Some, None, slice_get, option_to_list}
use Rattle.std.specs.List.{find, range_with_len, starts_with}
use Rattle.std.specs.Option.{option_map_or, option_and_then}
use Rattle.es_values.specs.declared.numbers.Num.{Num}
use Rattle.es_values.specs.declared.numbers.Num.TheVariants.{NotANumber, Whole}
use Rattle.es_values.specs.Numbers.{number_of_count}

-- ---- places

-- the place that a number names: the first of NaN, and none of a negative one
abbrev pub place_named : Num → Option ℕ
place_named NotANumber = Some 0
place_named (Whole (pos place)) = Some place
place_named (Whole (negsuc n)) = None

-- `charAt`: the code at a place as a text, which is empty outside of the text
abbrev pub character_at : List ℕ → Num → List ℕ
character_at text number =
    option_to_list (option_and_then (slice_get text) (place_named number))

-- `charCodeAt`: the code, and NaN outside
abbrev pub code_at : List ℕ → Num → Num
code_at text number =
    option_map_or (λ code. Whole (pos code))
    (option_and_then (slice_get text) (place_named number)) NotANumber

-- ---- places of a text in another

abbrev pub stands_at : List ℕ → List ℕ → ℕ → Bool
stands_at wanted text place = starts_with nat_eq (drop place text) wanted

-- all of them, ascending
abbrev pub places_of : List ℕ → List ℕ → List ℕ
places_of wanted text = filter (stands_at wanted text) (range_with_len 0 (suc (length text)))

-- a place as a number, and -1 for none
abbrev pub number_of_place : Option ℕ → Num
number_of_place None = Whole (negsuc 0)
number_of_place (Some place) = number_of_count place

-- `indexOf`: the first place at a number or behind it; NaN is 0
abbrev pub least_place : Num → ℕ
least_place NotANumber = 0
least_place (Whole (pos place)) = place
least_place (Whole (negsuc n)) = 0

unfoldable pub first_place : List ℕ → List ℕ → ℕ → Option ℕ
first_place wanted text least = find (nat_le least) (places_of wanted text)

-- `lastIndexOf`: the last place at a number or in front of it; NaN is the text's length
abbrev pub is_up_to : Num → ℕ → ℕ → Bool
is_up_to NotANumber size place = nat_le place size
is_up_to (Whole (pos most)) size place = nat_le place most
is_up_to (Whole (negsuc n)) size place = false

abbrev pub last : List ℕ → Option ℕ
last [] = None
last (place ∷ []) = Some place
last (place ∷ (other ∷ others)) = last (other ∷ others)

unfoldable pub last_place : List ℕ → List ℕ → Num → Option ℕ
last_place wanted text most = last (filter (is_up_to most (length text)) (places_of wanted text))

-- ---- parts

-- a bound of a part: NaN and what is negative are 0, and what is past the text its length
abbrev pub bound : ℕ → Num → ℕ
bound size NotANumber = 0
bound size (Whole (pos place)) = min place size
bound size (Whole (negsuc n)) = 0

abbrev pub between : List ℕ → ℕ → ℕ → List ℕ
between text one other =
    if nat_lt other one then take (one - other) (drop other text)
    else take (other - one) (drop one text)

-- `substring`: what stands between two places, in whichever order they are given; without a second the
-- rest of the text
abbrev pub substring : List ℕ → Num → Option Num → List ℕ
substring text one None = between text (bound (length text) one) (length text)
substring text one (Some other) =
    between text (bound (length text) one) (bound (length text) other)

-- the parts of a text, parted at each place of a separator from the front on, where it has at most so
-- many
unfoldable pub parts_within : ℕ → List ℕ → List ℕ → List (List ℕ)
parts_within zero separator text = text ∷ []
parts_within (suc more) separator text =
    elim (first_place separator text 0) [
      | None ↦ text ∷ []
      | Some place ↦
          take place text ∷ parts_within more separator (drop (place + length separator) text)
    ]

-- `split`: without a separator the whole text, with an empty one each code, and else its parts, of which
-- it has at most one more than codes
abbrev pub split_by : List ℕ → List ℕ → List (List ℕ)
split_by text [] = map (λ code. code ∷ []) text
split_by text (first ∷ rest) = parts_within (length text) (first ∷ rest) text

unfoldable pub split : List ℕ → Option (List ℕ) → List (List ℕ)
split text None = text ∷ []
split text (Some separator) = split_by text separator
