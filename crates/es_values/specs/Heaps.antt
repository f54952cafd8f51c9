-- Objects and the heap that holds them (ECMA-262 second edition, 8.6 and 15.4: objects without prototypes
-- and attributes, whose properties stand in order of insertion). An object's number is its place in the
-- heap, from 0, which is this project's own, as is the greatest index.
use Rattle.std.specs.Prelude.{ℕ, ◌+◌, ◌≤◌, nat_le, nat_lt, max, Bool, false, not, ◌&&◌, if◌then◌else◌, pos, negsuc, List, [], ◌∷◌, length, map, filter, count_by, Option, Some, None, slice_get, slice_set, is_some, unwrap_or, All, codes}
use Rattle.std.specs.List.{list_any}
use Rattle.std.specs.Option.{ForSome, option_map_or}
use Rattle.std.specs.Map.{lookup, remove_entry}
use Rattle.indexmap.specs.IndexMap.{insert_entry}
use Rattle.bml_bytes.specs.Numerals.{decimal_digits, decimal_number}
use Rattle.bml_bytes.specs.Words.{is_same}
use Rattle.es_values.specs.declared.numbers.Num.{Num}
use Rattle.es_values.specs.declared.numbers.Num.TheVariants.{NotANumber, Whole}
use Rattle.es_values.specs.declared.values.Value.{Value}
use Rattle.es_values.specs.declared.values.Value.TheVariants.{Undefined, Number}
use Rattle.es_values.specs.Values.{IsLiveAmong, is_function}
use Rattle.es_values.specs.Objects.{ObjectState}

-- Properties: names with values

-- the value of the property of this name, and Undefined where there is none
abbrev pub value_in : List (List ℕ × Value) → List ℕ → Value
value_in properties name = unwrap_or (lookup (is_same name) properties) Undefined

-- the properties with this value for the name: a property of the name keeps its place, and a new one
-- goes last
abbrev pub with_value : List (List ℕ × Value) → List ℕ → Value → List (List ℕ × Value)
with_value properties name value = insert_entry is_same properties name value

-- Arrays

-- the index that a name is, which is the number whose decimal text it is
unfoldable pub index_of : List ℕ → Option ℕ
index_of name =
    if nat_lt (decimal_number name) 2147483647 && is_same name (decimal_digits (decimal_number name))
    then Some (decimal_number name) else None

-- the name is that of `length`, which an array has and no property is
abbrev pub is_length : List ℕ → Bool
is_length name = is_same name (codes "length")

-- the least length that an array with this name has
abbrev pub length_for : List ℕ → ℕ
length_for name = option_map_or (λ index. index + 1) (index_of name) 0

-- the name is that of an element at this place or behind it
abbrev pub is_element_from : ℕ → List ℕ × Value → Bool
is_element_from place property = option_map_or (nat_le place) (index_of property.0) false

-- the properties without the elements at this place and behind it
abbrev pub cut_at : ℕ → List (List ℕ × Value) → List (List ℕ × Value)
cut_at place properties = filter (λ property. not (is_element_from place property)) properties

-- Objects

-- a new one
abbrev pub new_object : Bool → ObjectState
new_object is_array = record { array_length = (if is_array then Some 0 else None); properties = [] }

-- the name is `length`, and the object an array
abbrev pub is_array_length : ObjectState → List ℕ → Bool
is_array_length object name = is_some object.array_length && is_length name

-- the value of a name: an array's length, or what the property has
abbrev pub value_of : ObjectState → List ℕ → Value
value_of object name =
    if is_array_length object name then Number (Whole (pos (unwrap_or object.array_length 0)))
    else value_in object.properties name

-- the object with this value for a name other than an array's length: an element at the length or past it
-- makes an array longer
abbrev pub with_property : ObjectState → List ℕ → Value → ObjectState
with_property object name value =
    record {
      array_length = option_map_or (λ old. Some (max old (length_for name))) object.array_length None;
      properties = with_value object.properties name value;
    }

-- the object with these properties beside its own, one after the other
abbrev pub with_properties : ObjectState → List (List ℕ × Value) → ObjectState
with_properties object [] = object
with_properties object (property ∷ properties) =
    with_properties (with_property object property.0 property.1) properties

-- a new object that is no array, with these properties
abbrev pub object_of : List (List ℕ × Value) → ObjectState
object_of properties = with_properties (new_object false) properties

-- the array with this length: what isn't a length changes nothing, and a shorter one removes the elements
-- past it
abbrev pub with_length : ObjectState → Num → ObjectState
with_length object NotANumber = object
with_length object (Whole (negsuc n)) = object
with_length object (Whole (pos n)) =
    record { array_length = Some n; properties = cut_at n object.properties }

-- how many elements go with a length
abbrev pub cut_count : ObjectState → Num → ℕ
cut_count object NotANumber = 0
cut_count object (Whole (negsuc n)) = 0
cut_count object (Whole (pos n)) = count_by (is_element_from n) object.properties

-- whether there is a property that can go, and the object without it; an array's length stays
abbrev pub has_property : ObjectState → List ℕ → Bool
has_property object name =
    not (is_array_length object name) && is_some (lookup (is_same name) object.properties)

abbrev pub without_property : ObjectState → List ℕ → ObjectState
without_property object name =
    if is_array_length object name then object
    else record {
      array_length = object.array_length;
      properties = remove_entry (is_same name) object.properties;
    }

-- the names of the properties, in order of insertion
abbrev pub names_of : ObjectState → List (List ℕ)
names_of object = map (λ property. property.0) object.properties

-- an array of this length may have this property: it is no element at this place or behind it
abbrev pub IsBelow : ℕ → List ℕ × Value → Type 0
IsBelow count property = length_for property.0 ≤ count

-- where it is an array, each of its indices is below its length (15.4)
abbrev pub HasSoundLength : ObjectState → Type 0
HasSoundLength object =
    ForSome object.array_length (λ count. All (IsBelow count) object.properties)

-- Heaps

-- so it is of each object
abbrev pub HaveSoundLengths : List ObjectState → Type 0
HaveSoundLengths heap = All HasSoundLength heap

-- the object of this number; what isn't there is an object without properties
abbrev pub object_at : List ObjectState → ℕ → ObjectState
object_at heap object = unwrap_or (slice_get heap object) (new_object false)

-- the heap with another object in the place of that number
abbrev pub with_object : List ObjectState → ℕ → ObjectState → List ObjectState
with_object heap object new = slice_set heap object new

-- an object's number is that of an object of the heap; every other value is live in every heap
abbrev pub IsLive : List ObjectState → Value → Type 0
IsLive heap value = IsLiveAmong (length heap) value

-- the values of an object are live among so many objects
abbrev pub AreLiveAmong : ℕ → ObjectState → Type 0
AreLiveAmong count object = All (λ property. IsLiveAmong count property.1) object.properties

-- each value of each object is live
abbrev pub IsSound : List ObjectState → Type 0
IsSound heap = All (AreLiveAmong (length heap)) heap

-- a property of some object is the function of this number
abbrev pub holds_function : ℕ → List ObjectState → Bool
holds_function number heap =
    list_any (λ object. list_any (λ property. is_function number property.1) object.properties) heap
