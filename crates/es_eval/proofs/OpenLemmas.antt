-- What a change of the frames makes of the calls that are open.
use Rattle.std.proofs.Common.{◌≡◌, ◌∙◌, ◌+◌, ◌-◌, ◌<◌, ℕ, suc, List, [], ◌∷◌, ◌++◌, length, take, ap, sym, refl, arith}
use Rattle.std.specs.Prelude.{Option, Some, None, reverse, slice_get}
use Rattle.std.proofs.lemmas.List.{length-append, reverse-append, take_all, take_more}
use Rattle.std.proofs.lemmas.Option.{get_or_from_slice_get, none-some, slice_get-get_or, slice_get_within}
use Rattle.es_frames.specs.Frames as frame
use Rattle.es_frames.specs.Frames.{Frame}
use Rattle.es_shapes.specs.declared.functions.Declared.{Declared}
use Rattle.es_values.specs.declared.values.Value.{Value}
use Rattle.es_eval.specs.declared.works.Work.{Work}
use Rattle.es_eval.specs.devices.OpenCalls.{below_last, call_of, function_of, joined, next_item, this_of, values_of, with_item, with_value, without_item}

pub length-joined : (functions : List (Option Declared)) (frames : List (Frame Work))
    → length functions ≡ length frames → length (joined functions frames) ≡ length frames
length-joined [] [] same = refl
length-joined [] (frame ∷ frames) same = absurd (omega arith)
length-joined (function ∷ functions) [] same = absurd (omega arith)
length-joined (function ∷ functions) (frame ∷ frames) same =
    ap suc (length-joined functions frames (omega arith))

module _ (functions : List (Option Declared)) where
  pub this-joined : (frames : List (Frame Work)) → length functions ≡ length frames
      → frame.this_of frames ≡ this_of (joined functions frames)
  this-joined = by functions
    where
      by : (functions : List (Option Declared)) (frames : List (Frame Work))
          → length functions ≡ length frames
          → frame.this_of frames ≡ this_of (joined functions frames)
      by [] [] same = refl
      by [] (frame ∷ frames) same = absurd (omega arith)
      by (function ∷ functions) [] same = absurd (omega arith)
      by (function ∷ functions) (frame ∷ frames) same = refl

  pub values-joined : (frames : List (Frame Work)) → length functions ≡ length frames
      → frame.values_of frames ≡ values_of (joined functions frames)
  values-joined = by functions
    where
      by : (functions : List (Option Declared)) (frames : List (Frame Work))
          → length functions ≡ length frames
          → frame.values_of frames ≡ values_of (joined functions frames)
      by [] [] same = refl
      by [] (frame ∷ frames) same = absurd (omega arith)
      by (function ∷ functions) [] same = absurd (omega arith)
      by (function ∷ functions) (frame ∷ frames) same = refl

  pub next-joined : (frames : List (Frame Work)) → length functions ≡ length frames
      → frame.next_item frames ≡ next_item (joined functions frames)
  next-joined = by functions
    where
      by : (functions : List (Option Declared)) (frames : List (Frame Work))
          → length functions ≡ length frames
          → frame.next_item frames ≡ next_item (joined functions frames)
      by [] [] same = refl
      by [] (frame ∷ frames) same = absurd (omega arith)
      by (function ∷ functions) [] same = absurd (omega arith)
      by (function ∷ functions) (frame ∷ frames) same = refl

  pub set-joined : (frames : List (Frame Work)) (place : ℕ) (value : Value)
      → length functions ≡ length frames
      → joined functions (frame.with_value frames place value)
      ≡ with_value (joined functions frames) place value
  set-joined frames place value = by functions frames
    where
      by : (functions : List (Option Declared)) (frames : List (Frame Work))
          → length functions ≡ length frames
          → joined functions (frame.with_value frames place value)
          ≡ with_value (joined functions frames) place value
      by [] [] same = refl
      by [] (frame ∷ frames) same = absurd (omega arith)
      by (function ∷ functions) [] same = absurd (omega arith)
      by (function ∷ functions) (frame ∷ frames) same = refl

  pub put-joined : (frames : List (Frame Work)) (item : Work) → length functions ≡ length frames
      → joined functions (frame.with_item frames item) ≡ with_item (joined functions frames) item
  put-joined frames item = by functions frames
    where
      by : (functions : List (Option Declared)) (frames : List (Frame Work))
          → length functions ≡ length frames
          → joined functions (frame.with_item frames item)
          ≡ with_item (joined functions frames) item
      by [] [] same = refl
      by [] (frame ∷ frames) same = absurd (omega arith)
      by (function ∷ functions) [] same = absurd (omega arith)
      by (function ∷ functions) (frame ∷ frames) same = refl

  pub take-joined : (frames : List (Frame Work)) → length functions ≡ length frames
      → joined functions (frame.without_item frames) ≡ without_item (joined functions frames)
  take-joined = by functions
    where
      by : (functions : List (Option Declared)) (frames : List (Frame Work))
          → length functions ≡ length frames
          → joined functions (frame.without_item frames)
          ≡ without_item (joined functions frames)
      by [] [] same = refl
      by [] (frame ∷ frames) same = absurd (omega arith)
      by (function ∷ functions) [] same = absurd (omega arith)
      by (function ∷ functions) (frame ∷ frames) same = refl

-- ---- lengths

pub length-set : (frames : List (Frame Work)) (place : ℕ) (value : Value)
    → length (frame.with_value frames place value) ≡ length frames
length-set [] place value = refl
length-set (last ∷ below) place value = refl

pub length-put : (frames : List (Frame Work)) (item : Work)
    → length (frame.with_item frames item) ≡ length frames
length-put [] item = refl
length-put (last ∷ below) item = refl

pub length-taken : (frames : List (Frame Work))
    → length (frame.without_item frames) ≡ length frames
length-taken [] = refl
length-taken (last ∷ below) = refl

-- ---- a call more, and one less

pub reverse-more : (functions : List (Option Declared)) (function : Option Declared)
    → reverse (functions ++ function ∷ []) ≡ function ∷ reverse functions
reverse-more functions function = reverse-append functions (function ∷ [])

pub push-joined : (functions more : List (Option Declared)) (function : Option Declared)
    (frames new : List (Frame Work)) (frame : Frame Work)
    → more ≡ functions ++ function ∷ [] → new ≡ frame ∷ frames
    → joined (reverse more) new ≡ call_of function frame ∷ joined (reverse functions) frames
push-joined functions more function frames new frame is now =
    rw (is, now, reverse-more functions function) refl

pub length-pushed : (functions more : List (Option Declared)) (function : Option Declared)
    (frames new : List (Frame Work)) (frame : Frame Work)
    → length functions ≡ length frames
    → more ≡ functions ++ function ∷ [] → new ≡ frame ∷ frames → length more ≡ length new
length-pushed functions more function frames new frame same is now =
    let long : length more ≡ length functions + 1 =
    ap length is ∙ length-append functions (function ∷ []) in
    rw now (omega arith)

pub popped-joined : (functions rest : List (Option Declared)) (function : Option Declared)
    (frames new : List (Frame Work)) → functions ≡ rest ++ function ∷ []
    → new ≡ frame.below_last frames → length functions ≡ length frames
    → (joined (reverse rest) new ≡ below_last (joined (reverse functions) frames))
    × (length rest ≡ length new)
popped-joined functions rest function [] new is now same =
    let long : length functions ≡ length rest + 1 =
    ap length is ∙ length-append rest (function ∷ []) in
    absurd (omega arith)
popped-joined functions rest function (last ∷ below) new is now same =
    let long : length functions ≡ length rest + 1 =
    ap length is ∙ length-append rest (function ∷ []) in
    (rw (is, now, reverse-more rest function) refl, rw now (omega arith))

pub emptied-joined : (functions rest : List (Option Declared)) (frames : List (Frame Work))
    → rest ≡ functions → length functions ≡ 0 → length functions ≡ length frames
    → joined (reverse rest) frames ≡ below_last (joined (reverse functions) frames)
emptied-joined [] rest [] is none same = rw is refl
emptied-joined [] rest (last ∷ below) is none same = absurd (omega arith)
emptied-joined (function ∷ functions) rest frames is none same = absurd (omega arith)

-- ---- the function of the last call

from_last : (functions : List (Option Declared)) (function : Option Declared)
    → slice_get functions (length functions - 1) ≡ Some function
    → reverse functions ≡ function ∷ reverse (take (length functions - 1) functions)
from_last functions function is =
    let inside : length functions - 1 < length functions =
    slice_get_within functions (length functions - 1) function is in
    let whole : length functions - 1 + 1 ≡ length functions = omega arith in
    ap reverse (sym (take_all (length functions) functions (omega arith))
    ∙ (ap (λ n. take n functions) (sym whole)
    ∙ (take_more functions (length functions - 1) function inside
    ∙ ap (λ y. take (length functions - 1) functions ++ y ∷ [])
    (get_or_from_slice_get functions (length functions - 1) function function is))))
    ∙ reverse-more (take (length functions - 1) functions) function

pub last-joined : (functions : List (Option Declared)) (function : Option Declared)
    (frames : List (Frame Work)) → slice_get functions (length functions - 1) ≡ Some function
    → length functions ≡ length frames
    → function ≡ function_of (joined (reverse functions) frames)
last-joined functions function [] is same =
    let inside : length functions - 1 < length functions =
    slice_get_within functions (length functions - 1) function is in
    absurd (omega arith)
last-joined functions function (last ∷ below) is same = rw (from_last functions function is) refl

pub none-joined : (functions : List (Option Declared)) (frames : List (Frame Work))
    → slice_get functions (length functions - 1) ≡ None
    → None ≡ function_of (joined (reverse functions) frames)
none-joined [] frames is = refl
none-joined (first ∷ others) frames is =
    let all : List (Option Declared) = first ∷ others in
    let at_last : slice_get all (length all - 1) ≡ Some _ =
    slice_get-get_or all (length all - 1) first (omega arith) in
    absurd (none-some _ (sym is ∙ at_last))
