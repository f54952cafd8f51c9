-- The components of a program, as a map between component_tags and PIDs. (ISO/IEC 13818-1, 2.4.4.8; the choice of
-- streams is this project's own.)
use Rattle.std.specs.Prelude.{◌≡◌, ◌≢◌, ◌==◌, ℕ, Bool, ◌||◌, if◌then◌else◌, List, [], ◌∷◌, ◌++◌, take, find, Option, None, option_map}
use Rattle.std.specs.List.{filter_map, list_any}
use Rattle.psi_tables.specs.declared.components.Component.{Component}
use Rattle.psi_tables.specs.declared.pmt.PmtStream.{PmtStream}

-- the stream_type of data carousels (ARIB STD-B24, volume 3, after ISO/IEC 13818-6: DSM-CC sections of type D)
abbrev pub data_carousel : ℕ
data_carousel = 0x0D

-- the component that a stream brings: one of data carousels that has a component_tag
abbrev pub component_of_stream : PmtStream → Option Component
component_of_stream stream =
    if stream.kind == data_carousel then option_map (λ tag. record { tag = tag; pid = stream.pid }) stream.component else None

-- two components differ in their tags and in their PIDs
abbrev pub AreApart : Component → Component → Type 0
AreApart component other = (component.tag ≢ other.tag) × (component.pid ≢ other.pid)

-- one of the components has that tag or that PID already
abbrev pub is_taken : List Component → Component → Bool
is_taken taken component = list_any (λ other. (other.tag == component.tag) || (other.pid == component.pid)) taken

-- Of these components those that are taken behind the ones before: each whose tag and PID no component that was
-- taken has. One that is left out uses up neither (this project's own rule).
unfoldable pub distinct_behind : List Component → List Component → List Component
distinct_behind taken [] = []
distinct_behind taken (component ∷ components) =
    if is_taken taken component
    then distinct_behind taken components
    else component ∷ distinct_behind (taken ++ component ∷ []) components

-- the components of a PMT's streams: the first 16 with distinct tags and distinct PIDs (this project's own rule)
unfoldable pub components_of : List PmtStream → List Component
components_of streams = take 16 (distinct_behind [] (filter_map component_of_stream streams))

-- the PID of a component, where there is such a component
abbrev pub pid_in : List Component → ℕ → Option ℕ
pid_in map tag = option_map (λ component. component.pid) (find (λ component. component.tag == tag) map)

-- the component with a PID, where there is one
abbrev pub tag_in : List Component → ℕ → Option ℕ
tag_in map pid = option_map (λ component. component.tag) (find (λ component. component.pid == pid) map)

-- two lists of components are one finite map from tags to PIDs
abbrev pub AreSameMap : List Component → List Component → Type 0
AreSameMap map other = (tag : ℕ) → pid_in map tag ≡ pid_in other tag
