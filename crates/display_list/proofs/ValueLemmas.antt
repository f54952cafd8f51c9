-- The numbers of the properties have sixteen bits.
use Rattle.std.proofs.Common.{◌≡◌, true, ℤ, pos, negsuc, ◌≤ℤ◌, FitsSigned, to_z, of_z, sym, ap, subst, ◌∙◌, arith}
use Rattle.std.specs.Prelude.{int_le}
use Rattle.std.specs.Int.{w16, w32}
use Rattle.std.proofs.lemmas.Bool.{and_parts}
use Rattle.std.proofs.lemmas.Int.{ints, to_z-of_z}
use Rattle.style_reader.specs.Values.{fits, is_between}
use Rattle.style_reader.specs.declared.properties.Property.{Property}
use Rattle.style_reader.specs.declared.properties.Property.TheVariants.{Left, Top, Width, Height, Visibility, ZIndex, NavIndex, NavUp, NavDown, NavLeft, NavRight, UsedKeyList, ColorIndex, BackgroundColorIndex, BorderWidth, BorderColorIndex, FontSize}
use Rattle.style_reader.specs.declared.properties.StyleValue.TheVariants.{Whole}

le-from : (m n : ℤ) → int_le m n ≡ true → m ≤ℤ n
le-from m n h = grind (arith, ints)

in_bits : (z : ℤ) → negsuc 32767 ≤ℤ z → z ≤ℤ pos 32767 → FitsSigned w16 z
in_bits (pos n) low high = record { sfits = omega (arith, ints, low, high) }
in_bits (negsuc n) low high = record { sfits = omega (arith, ints, low, high) }

signed : (z : ℤ) → is_between (negsuc 32767) (pos 32767) z ≡ true → FitsSigned w16 z
signed z h = let p = and_parts (int_le (negsuc 32767) z) (int_le z (pos 32767)) h in in_bits z (le-from (negsuc 32767) z p.0) (le-from z (pos 32767) p.1)

from_zero : (z : ℤ) → pos 0 ≤ℤ z → negsuc 32767 ≤ℤ z
from_zero z h = omega (arith, ints, h)

unsigned : (z : ℤ) → is_between (pos 0) (pos 32767) z ≡ true → FitsSigned w16 z
unsigned z h = let p = and_parts (int_le (pos 0) z) (int_le z (pos 32767)) h in in_bits z (from_zero z (le-from (pos 0) z p.0)) (le-from z (pos 32767) p.1)

small : (z : ℤ) → z ≤ℤ pos 255 → z ≤ℤ pos 32767
small z h = omega (arith, ints, h)

colour : (z : ℤ) → is_between (pos 0) (pos 255) z ≡ true → FitsSigned w16 z
colour z h = let p = and_parts (int_le (pos 0) z) (int_le z (pos 255)) h in in_bits z (from_zero z (le-from (pos 0) z p.0)) (small z (le-from z (pos 255) p.1))

pub fits-number : (property : Property) (z : ℤ) → fits property (Whole z) ≡ true → FitsSigned w16 z
unfolding fits
fits-number Left z h = signed z h
fits-number Top z h = signed z h
fits-number Width z h = unsigned z h
fits-number Height z h = unsigned z h
fits-number Visibility z h = absurd (cc h)
fits-number ZIndex z h = signed z h
fits-number NavIndex z h = unsigned z h
fits-number NavUp z h = unsigned z h
fits-number NavDown z h = unsigned z h
fits-number NavLeft z h = unsigned z h
fits-number NavRight z h = unsigned z h
fits-number UsedKeyList z h = absurd (cc h)
fits-number ColorIndex z h = colour z h
fits-number BackgroundColorIndex z h = colour z h
fits-number BorderWidth z h = unsigned z h
fits-number BorderColorIndex z h = colour z h
fits-number FontSize z h = unsigned z h

-- a number that is cast from 32 bits

widened : (z : ℤ) → FitsSigned w16 z → z ≡ to_z w32 (of_z w32 z)
widened z h = omega (arith, ints, h.sfits)

pub cast-fits : (z : ℤ) → FitsSigned w16 z → FitsSigned w16 (to_z w32 (of_z w32 z))
cast-fits z h = subst (FitsSigned w16) (widened z h) h

pub cast-is : (z : ℤ) → FitsSigned w16 z → to_z w16 (of_z w16 (to_z w32 (of_z w32 z))) ≡ z
cast-is z h = ap (λ (n : ℤ). to_z w16 (of_z w16 n)) (sym (widened z h)) ∙ to_z-of_z w16 z h
