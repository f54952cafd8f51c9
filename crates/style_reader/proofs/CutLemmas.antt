-- A text that is put together, and where it is cut.
use Rattle.std.proofs.Common.{◌≡◌, ℕ, suc, ◌+◌, Bool, true, false, List, [], ◌∷◌, ◌++◌, take, drop, refl, sym, ◌∙◌, ap, arith}
use Rattle.std.specs.Prelude.{◌&&◌, ◌||◌}
use Rattle.std.specs.List.{after_first, before_first, list_all, list_any, position_or_len}
use Rattle.style_reader.specs.Characters.{is_white, without_white_front}
use Rattle.style_reader.specs.Sheets.{IsWhite}
use Rattle.style_reader.specs.devices.Views.{IsParted}
use Rattle.style_reader.proofs.WordLemmas.{without_white-black, without_white-white}

one_more : (n : ℕ) → 1 + n ≡ suc n
one_more n = omega arith

one_behind : (n : ℕ) → suc n + 1 ≡ suc (n + 1)
one_behind n = omega arith

module _ (test : ℕ → Bool) where
  before-yes : (code : ℕ) (text : List ℕ) → test code ≡ true → before_first test (code ∷ text) ≡ []
  before-yes code text e = rw e refl

  after-yes : (code : ℕ) (text : List ℕ) → test code ≡ true → after_first test (code ∷ text) ≡ text
  after-yes code text e = rw e refl

  before-no : (code : ℕ) (text : List ℕ) → test code ≡ false → before_first test (code ∷ text) ≡ code ∷ before_first test text
  before-no code text e = rw e (ap (λ (n : ℕ). take n (code ∷ text)) (one_more (position_or_len test text)))

  after-no : (code : ℕ) (text : List ℕ) → test code ≡ false → after_first test (code ∷ text) ≡ after_first test text
  after-no code text e = rw e (ap (λ (n : ℕ). drop (n + 1) (code ∷ text)) (one_more (position_or_len test text)) ∙ ap (λ (n : ℕ). drop n (code ∷ text)) (one_behind (position_or_len test text)))

  or-false : (a b : Bool) → (a || b) ≡ false → (a ≡ false) × (b ≡ false)
  or-false false b e = (refl, e)
  or-false true b e = absurd (cc e)

  -- a text is cut at the first code that passes
  pub parted-at : (before behind : List ℕ) (code : ℕ) → list_any test before ≡ false → test code ≡ true → IsParted test (before ++ (code ∷ behind)) before behind
  parted-at [] behind code lacks e = record {
    has_one = rw e refl;
    before_is = sym (before-yes code behind e);
    behind_is = sym (after-yes code behind e);
  }
  parted-at (first ∷ before) behind code lacks e =
      let apart = or-false (test first) (list_any test before) lacks in
      let more = parted-at before behind code apart.1 e in
      record {
        has_one = rw (apart.0) more.has_one;
        before_is = ap (λ (t : List ℕ). first ∷ t) more.before_is ∙ sym (before-no first (before ++ (code ∷ behind)) apart.0);
        behind_is = more.behind_is ∙ sym (after-no first (before ++ (code ∷ behind)) apart.0);
      }

  -- what it is cut into
  pub record IsJoined (text before behind : List ℕ) : Type 0 where
    pub code : ℕ
    pub passes : test code ≡ true
    pub lacks : list_any test before ≡ false
    pub end_to_end : text ≡ before ++ (code ∷ behind)

  pub joined-at : (text : List ℕ) → list_any test text ≡ true → IsJoined text (before_first test text) (after_first test text)
  joined-at [] e = absurd (cc e)
  joined-at (first ∷ text) e = by (test first) refl (joined-at text)
    where
      by : (b : Bool) → test first ≡ b → (list_any test text ≡ true → IsJoined text (before_first test text) (after_first test text)) → IsJoined (first ∷ text) (before_first test (first ∷ text)) (after_first test (first ∷ text))
      by true is more = rw (before-yes first text is, after-yes first text is) (record { code = first; passes = is; lacks = refl; end_to_end = refl })
      by false is more =
          let behind = more (sym (rw is refl) ∙ e) in
          rw (before-no first text is, after-no first text is) (record {
            code = behind.code;
            passes = behind.passes;
            lacks = rw is behind.lacks;
            end_to_end = ap (λ (t : List ℕ). first ∷ t) behind.end_to_end;
          })

-- ---- white

-- no white in front
abbrev pub IsBlack : List ℕ → Type 0
IsBlack [] = Unit {0}
IsBlack (code ∷ more) = is_white code ≡ false

and-true : (a b : Bool) → (a && b) ≡ true → (a ≡ true) × (b ≡ true)
and-true true b e = (refl, e)
and-true false b e = absurd (cc e)

pub white-cut : (white more : List ℕ) → IsWhite white → IsBlack more → without_white_front (white ++ more) ≡ more
white-cut [] [] w b = refl
white-cut [] (code ∷ more) w b = without_white-black code more b
white-cut (first ∷ white) more w b =
    let whites = and-true (is_white first) (list_all is_white white) w in
    without_white-white first (white ++ more) whites.0 ∙ white-cut white more whites.1 b

-- a text is white and what is left without it
pub record IsWhiteBefore (text more : List ℕ) : Type 0 where
  pub white : List ℕ
  pub is : text ≡ white ++ more
  pub whites : IsWhite white
  pub black : IsBlack more

pub white-before : (text : List ℕ) → IsWhiteBefore text (without_white_front text)
white-before [] = record { white = []; is = refl; whites = refl; black = tt }
white-before (code ∷ text) = by (is_white code) refl (white-before text)
  where
    by : (b : Bool) → is_white code ≡ b → IsWhiteBefore text (without_white_front text) → IsWhiteBefore (code ∷ text) (without_white_front (code ∷ text))
    by true e more = rw (without_white-white code text e) (record { white = code ∷ more.white; is = ap (λ (t : List ℕ). code ∷ t) more.is; whites = rw e more.whites; black = more.black })
    by false e more = rw (without_white-black code text e) (record { white = []; is = refl; whites = refl; black = e })
