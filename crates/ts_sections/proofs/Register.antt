-- The shift register: it holds the remainder of the long division, it is linear, and bits that its own
-- leading bits cancel only shift it.
use Rattle.std.proofs.Common.{◌≡◌, ℕ, zero, suc, Bool, true, false, cond, List, [], ◌∷◌, ◌++◌, length, replicate, refl, sym, ap, ◌∙◌, arith, append_assoc, append-nil, length-append}
use Rattle.std.proofs.lemmas.List.{append_cancel_right}
use Rattle.std.proofs.lemmas.Bool.{false≢true}
use Rattle.ts_sections.specs.Crc.{bit_sum, add_at_front, generator, remainder, shifted, register_behind, bits_of_number}
use Rattle.ts_sections.proofs.Adding.{bit_sum_self, bit_sum_four, both, add_assoc, add_comm, add_self, add_zeros, length-add, add-append, add_one_zero}

pub length-generator : length generator ≡ 32
unfolding generator bits_of_number
length-generator = refl

-- what was shifted, with the generator where the bit that left was 1
abbrev reduced : Bool → List Bool → List Bool
reduced s moved = cond s (add_at_front generator moved) moved

length-reduced : (s : Bool) (a : List Bool) → length a ≡ 32 → length (reduced s a) ≡ 32
length-reduced true a h = omega (arith, length-add generator a, length-generator, h)
length-reduced false a h = h

pub length-shifted : (r : List Bool) (b : Bool) → length r ≡ 32 → length (shifted r b) ≡ 32
unfolding shifted
length-shifted [] b h = h
length-shifted (l ∷ r) b h =
    length-reduced (bit_sum l b) (r ++ false ∷ []) (omega (arith, length-append r (false ∷ []), h))

pub length-behind : (m r : List Bool) → length r ≡ 32 → length (register_behind r m) ≡ 32
unfolding register_behind
length-behind [] r h = h
length-behind (b ∷ m) r h = length-behind m (shifted r b) (length-shifted r b h)

reduced-add : (s : Bool) (a b : List Bool) → reduced s (add_at_front a b) ≡ add_at_front (reduced s a) b
reduced-add true a b = add_assoc generator a b
reduced-add false a b = refl

-- ---- the register holds the remainder of the long division
pub division : (m r : List Bool) → length r ≡ 32 → remainder (length m) (add_at_front r (m ++ replicate 32 false)) ≡ register_behind r m
unfolding register_behind remainder add_at_front shifted
division [] r h = add_comm r (replicate 32 false) ∙ add_zeros 32 r (omega (arith, h))
division (b ∷ m) [] h = absurd (omega (arith, h))
division (b ∷ m) (l ∷ r) h =
    ap (λ v. remainder (length m) (reduced (bit_sum l b) v)) (sym (add_one_zero r (m ++ replicate 32 false) (omega (arith, h, length-append m (replicate 32 false)))))
    ∙ ap (remainder (length m)) (reduced-add (bit_sum l b) (r ++ false ∷ []) (m ++ replicate 32 false))
    ∙ division m (reduced (bit_sum l b) (r ++ false ∷ [])) (length-reduced (bit_sum l b) (r ++ false ∷ []) (omega (arith, length-append r (false ∷ []), h)))

pub behind-append : (a b r : List Bool) → register_behind r (a ++ b) ≡ register_behind (register_behind r a) b
unfolding register_behind
behind-append [] b r = refl
behind-append (x ∷ a) b r = behind-append a b (shifted r x)

-- ---- bits that the leading ones cancel
pub cancelled : (c a : List Bool) → register_behind (c ++ a) c ≡ a ++ replicate (length c) false
unfolding register_behind shifted
cancelled [] a = sym (append-nil a)
cancelled (x ∷ c) a =
    ap (λ s. register_behind (reduced s ((c ++ a) ++ false ∷ [])) c) (bit_sum_self x)
    ∙ ap (λ v. register_behind v c) (append_assoc c a (false ∷ []))
    ∙ cancelled c (a ++ false ∷ [])
    ∙ append_assoc a (false ∷ []) (replicate (length c) false)

-- ---- linearity
twice : (a : List Bool) → length a ≡ 32 → add_at_front (add_at_front generator a) generator ≡ a
twice a h =
    add_comm (add_at_front generator a) generator
    ∙ add_assoc generator generator a
    ∙ ap (λ v. add_at_front v a) (add_self generator)
    ∙ add_zeros (length generator) a (omega (arith, h, length-generator))

reduced-linear : (s t : Bool) (a b : List Bool) → length a ≡ 32 → reduced (bit_sum s t) (add_at_front a b) ≡ add_at_front (reduced s a) (reduced t b)
reduced-linear true true a b h =
    sym (add_assoc (add_at_front generator a) generator b ∙ ap (λ v. add_at_front v b) (twice a h))
reduced-linear true false a b h = add_assoc generator a b
reduced-linear false true a b h = add_assoc generator a b ∙ ap (λ v. add_at_front v b) (add_comm generator a) ∙ sym (add_assoc a generator b)
reduced-linear false false a b h = refl

shifted-linear : (r q : List Bool) (b d : Bool) → length r ≡ 32 → length q ≡ 32 → shifted (add_at_front r q) (bit_sum b d) ≡ add_at_front (shifted r b) (shifted q d)
unfolding shifted add_at_front
shifted-linear [] q b d h k = absurd (omega (arith, h))
shifted-linear (l ∷ r) [] b d h k = absurd (omega (arith, k))
shifted-linear (l ∷ r) (m ∷ q) b d h k =
    ap (λ s. reduced s (add_at_front r q ++ false ∷ [])) (bit_sum_four l m b d)
    ∙ ap (reduced (bit_sum (bit_sum l b) (bit_sum m d))) (sym (add-append r q (false ∷ []) (false ∷ []) (omega (arith, h, k))))
    ∙ reduced-linear (bit_sum l b) (bit_sum m d) (r ++ false ∷ []) (q ++ false ∷ []) (omega (arith, h, length-append r (false ∷ [])))

pub behind-linear : (m n r q : List Bool) → length m ≡ length n → length r ≡ 32 → length q ≡ 32 → register_behind (add_at_front r q) (add_at_front m n) ≡ add_at_front (register_behind r m) (register_behind q n)
unfolding register_behind add_at_front
behind-linear [] [] r q e h k = refl
behind-linear [] (d ∷ n) r q e h k = absurd (omega (arith, e))
behind-linear (b ∷ m) [] r q e h k = absurd (omega (arith, e))
behind-linear (b ∷ m) (d ∷ n) r q e h k =
    ap (λ v. register_behind v (add_at_front m n)) (shifted-linear r q b d h k)
    ∙ behind-linear m n (shifted r b) (shifted q d) (omega (arith, e)) (length-shifted r b h) (length-shifted q d k)

-- ---- a byte at a time
-- what eight bits that leave the register add to what follows them
abbrev pub left_behind : List Bool → List Bool
left_behind bits = register_behind (bits ++ replicate 24 false) (replicate 8 false)

pub added_twice : (h b : List Bool) → length h ≡ length b → add_at_front (add_at_front h b) b ≡ h
added_twice h b e =
    sym (add_assoc h b b)
    ∙ ap (add_at_front h) (add_self b)
    ∙ add_comm h (replicate (length b) false)
    ∙ add_zeros (length b) h (omega (arith, e))

pub byte_in : (h l b : List Bool) → length h ≡ 8 → length l ≡ 24 → length b ≡ 8 → register_behind (h ++ l) b ≡ add_at_front (left_behind (add_at_front h b)) (l ++ replicate 8 false)
byte_in h l b eh el eb =
    let zeros : add_at_front (replicate 24 false) l ≡ l = add_zeros 24 l (omega (arith, el)) in
    let front : add_at_front (add_at_front h b) b ≡ h = added_twice h b (omega (arith, eh, eb)) in
    let parts : add_at_front (add_at_front h b ++ replicate 24 false) (b ++ l) ≡ h ++ l =
    add-append (add_at_front h b) b (replicate 24 false) l (omega (arith, length-add h b, eh, eb)) ∙ ap (λ v. v ++ add_at_front (replicate 24 false) l) front ∙ ap (λ v. h ++ v) zeros in
    let message : add_at_front (replicate 8 false) b ≡ b = add_zeros 8 b (omega (arith, eb)) in
    ap (λ v. register_behind v b) (sym parts)
    ∙ ap (register_behind (add_at_front (add_at_front h b ++ replicate 24 false) (b ++ l))) (sym message)
    ∙ behind-linear (replicate 8 false) b (add_at_front h b ++ replicate 24 false) (b ++ l) (omega (arith, eb)) (omega (arith, length-append (add_at_front h b) (replicate 24 false), length-add h b, eh, eb)) (omega (arith, length-append b l, eb, el))
    ∙ ap (add_at_front (left_behind (add_at_front h b))) (cancelled b l ∙ ap (λ n. l ++ replicate n false) eb)

-- ---- only zeros lead to zeros
abbrev zeros : List Bool
zeros = replicate 32 false

abbrev last_of : List Bool → Bool
last_of [] = false
last_of (x ∷ []) = x
last_of (x ∷ y ∷ a) = last_of (y ∷ a)

last-push : (a : List Bool) (x : Bool) → last_of (a ++ x ∷ []) ≡ x
last-push [] x = refl
last-push (y ∷ []) x = refl
last-push (y ∷ z ∷ a) x = last-push (z ∷ a) x

-- the lowest coefficient of the generator is 1
last-generator : last_of generator ≡ true
unfolding generator bits_of_number
last-generator = refl

-- what was shifted ends with 0, and so isn't the generator
not_generator : (moved : List Bool) → add_at_front generator (moved ++ false ∷ []) ≡ zeros → length moved ≡ 31 → false ≡ true
not_generator moved e h =
    let longer : length (moved ++ false ∷ []) ≡ 32 = omega (arith, h, length-append moved (false ∷ [])) in
    let same : add_at_front (add_at_front generator (moved ++ false ∷ [])) generator ≡ moved ++ false ∷ [] = twice (moved ++ false ∷ []) longer in
    let all : add_at_front zeros generator ≡ generator = add_zeros 32 generator (omega (arith, length-generator)) in
    sym (last-push moved false) ∙ ap last_of (sym same ∙ ap (λ v. add_at_front v generator) e ∙ all) ∙ last-generator

none_shifted : (r : List Bool) → length r ≡ 32 → shifted r false ≡ zeros → r ≡ zeros
unfolding shifted
none_shifted [] h e = absurd (omega (arith, h))
none_shifted (true ∷ r) h e = absurd (false≢true (not_generator r e (omega (arith, h))))
none_shifted (false ∷ r) h e = both refl (append_cancel_right r (replicate 31 false) (false ∷ []) e)

pub none_behind : (n : ℕ) (r : List Bool) → length r ≡ 32 → register_behind r (replicate n false) ≡ zeros → r ≡ zeros
unfolding register_behind
none_behind zero r h e = e
none_behind (suc n) r h e = none_shifted r h (none_behind n (shifted r false) (length-shifted r false h) e)
