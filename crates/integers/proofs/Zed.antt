-- ℤ as a difference of two naturals, so that omega can serve. Assumes nothing.
-- z is up z − down z. An expression e over ℤ has a value ⟦ e ⟧ in ℤ, and two naturals P e and N e, made of the ups and downs of its atoms,
-- whose difference is that value. So an equation or an order over ℤ is one over ℕ, between P and N: omega proves that, products and all.
use mathlib.Core.Path.{◌≡◌, refl, sym, ◌∙◌, ap, subst}
use mathlib.Core.Bool.{Bool, true, false, not, cond, true≢false}
use Prim.Native.Nat.{ℕ, zero, suc, ◌+◌, ◌*◌, ◌-◌, ◌^◌, ◌<◌, ◌≤◌}
use native.Mathlib.Omega.{arith}
use lib.Dec.{T, ltb, leb→le, le→leb, ltb→lt, lt→ltb, nltb→le}
use lib.IntN.{ℤ, pos, negsuc, neg_ℤ, sub_ℕ, ◌+ℤ◌, ◌-ℤ◌, ◌*ℤ◌, nat_abs, +ℤ_assoc, +ℤ_comm, *ℤ_comm}
use lib.Signed.{◌≤ℤ◌, ◌<ℤ◌, le_z, lt_z, mag, non_neg}
use mir.Syntax.{Width}
use mir.Val.{SFits, hbits, to_z, of_z}
use borrow.Author.Tests.{ltb-true}
use mir.Facts.{to_z-of_z}

abbrev pub up : ℤ → ℕ
up (pos n) = n
up (negsuc n) = 0

abbrev pub down : ℤ → ℕ
down (pos n) = 0
down (negsuc n) = suc n

-- z is (p − n)
abbrev Is : ℤ → ℕ → ℕ → Type 0
Is z p n = up z + n ≡ p + down z

cond_ind : (c : Bool) (x y : ℤ) (Q : ℤ → Type 0) → (T c → Q x) → (T (not c) → Q y) → Q (cond c x y)
cond_ind true x y Q f g = f tt
cond_ind false x y Q f g = g tt

is-sub : (a b : ℕ) → Is (sub_ℕ a b) a b
is-sub a b = cond_ind (ltb a b) (negsuc (b - suc a)) (pos (a - b)) (λ z. Is z a b)
    (λ t. omega (arith, ltb→lt a b t)) (λ t. omega (arith, nltb→le a b t))

is-neg-pos : (n : ℕ) → Is (neg_ℤ (pos n)) 0 n
is-neg-pos zero = refl
is-neg-pos (suc n) = omega arith

is-neg : (z : ℤ) → Is (neg_ℤ z) (down z) (up z)
is-neg (pos n) = is-neg-pos n
is-neg (negsuc n) = omega arith

is-add : (a b : ℤ) → Is (a +ℤ b) (up a + up b) (down a + down b)
is-add (pos a) (pos b) = omega arith
is-add (pos a) (negsuc b) = omega (arith, is-sub a (suc b))
is-add (negsuc a) (pos b) = omega (arith, is-sub b (suc a))
is-add (negsuc a) (negsuc b) = omega arith

is_mul : (a b : ℤ) → Is (a *ℤ b) (up a * up b + down a * down b) (up a * down b + down a * up b)
is_mul (pos a) (pos b) = omega arith
is_mul (pos a) (negsuc b) = omega (arith, is-neg-pos (a * suc b))
is_mul (negsuc a) (pos b) = omega (arith, is-neg-pos (suc a * b))
is_mul (negsuc a) (negsuc b) = omega arith

-- ---- equality and order

pub ud-eq : (a b : ℤ) → up a + down b ≡ up b + down a → a ≡ b
ud-eq (pos a) (pos b) h = ap pos (omega arith)
ud-eq (pos a) (negsuc b) h = absurd (omega arith)
ud-eq (negsuc a) (pos b) h = absurd (omega arith)
ud-eq (negsuc a) (negsuc b) h = ap negsuc (omega arith)

pub eq-ud : {a b : ℤ} → a ≡ b → up a + down b ≡ up b + down a
eq-ud {a} {b} h = subst (λ x. up a + down x ≡ up x + down a) h refl

le_z-ud : (a b : ℤ) → T (le_z a b) → up a + down b ≤ up b + down a
le_z-ud (pos a) (pos b) h = omega (arith, leb→le a b h)
le_z-ud (pos a) (negsuc b) h = absurd h
le_z-ud (negsuc a) (pos b) h = omega arith
le_z-ud (negsuc a) (negsuc b) h = omega (arith, leb→le b a h)

ud-le_z : (a b : ℤ) → up a + down b ≤ up b + down a → T (le_z a b)
ud-le_z (pos a) (pos b) h = le→leb a b (omega arith)
ud-le_z (pos a) (negsuc b) h = absurd (omega arith)
ud-le_z (negsuc a) (pos b) h = tt
ud-le_z (negsuc a) (negsuc b) h = le→leb b a (omega arith)

lt_z-ud : (a b : ℤ) → T (lt_z a b) → up a + down b < up b + down a
lt_z-ud (pos a) (pos b) h = omega (arith, ltb→lt a b h)
lt_z-ud (pos a) (negsuc b) h = absurd h
lt_z-ud (negsuc a) (pos b) h = omega arith
lt_z-ud (negsuc a) (negsuc b) h = omega (arith, ltb→lt b a h)

ud-lt_z : (a b : ℤ) → up a + down b < up b + down a → T (lt_z a b)
ud-lt_z (pos a) (pos b) h = lt→ltb a b (omega arith)
ud-lt_z (pos a) (negsuc b) h = absurd (omega arith)
ud-lt_z (negsuc a) (pos b) h = tt
ud-lt_z (negsuc a) (negsuc b) h = lt→ltb b a (omega arith)

pub le-ud : {a b : ℤ} → a ≤ℤ b → up a + down b ≤ up b + down a
le-ud {a} {b} h = le_z-ud a b h.le

pub ud-le : (a b : ℤ) → up a + down b ≤ up b + down a → a ≤ℤ b
ud-le a b h = record { le = ud-le_z a b h }

pub lt-ud : {a b : ℤ} → a <ℤ b → up a + down b < up b + down a
lt-ud {a} {b} h = lt_z-ud a b h.lt

pub ud-lt : (a b : ℤ) → up a + down b < up b + down a → a <ℤ b
ud-lt a b h = record { lt = ud-lt_z a b h }

-- ---- expressions

pub data E : Type 0 where
  `◌ : ℤ → E
  #◌ : ℕ → E
  ◌⊕◌ ◌⊖◌ ◌⊗◌ : E → E → E
  ⊝◌ : E → E

infix 90 `◌ #◌
infixl 6 ◌⊕◌ ◌⊖◌
infixl 7 ◌⊗◌
infix 8 ⊝◌
abbrev pub ⟦◌⟧ : E → ℤ
⟦ ` z ⟧ = z
⟦ # n ⟧ = pos n
⟦ a ⊕ b ⟧ = ⟦ a ⟧ +ℤ ⟦ b ⟧
⟦ a ⊖ b ⟧ = ⟦ a ⟧ -ℤ ⟦ b ⟧
⟦ a ⊗ b ⟧ = ⟦ a ⟧ *ℤ ⟦ b ⟧
⟦ ⊝ a ⟧ = neg_ℤ ⟦ a ⟧

abbrev pub PN : E → ℕ × ℕ
PN (` z) = (up z, down z)
PN (# n) = (n, 0)
PN (a ⊕ b) = ((PN a).0 + (PN b).0, (PN a).1 + (PN b).1)
PN (a ⊖ b) = ((PN a).0 + (PN b).1, (PN a).1 + (PN b).0)
PN (a ⊗ b) = ((PN a).0 * (PN b).0 + (PN a).1 * (PN b).1, (PN a).0 * (PN b).1 + (PN a).1 * (PN b).0)
PN (⊝ a) = ((PN a).1, (PN a).0)

abbrev pub P : E → ℕ
P e = (PN e).0

abbrev pub N : E → ℕ
N e = (PN e).1

mul-step : (A A' B B' p n q m : ℕ) → A + n ≡ p + A' → B + m ≡ q + B' → A * B + A' * B' + (p * m + n * q) ≡ p * q + n * m + (A * B' + A' * B)
mul-step A A' B B' p n q m ha hb =
    omega (arith, ap (λ (x : ℕ). x * B) ha, ap (λ (x : ℕ). x * B') ha, ap (λ (x : ℕ). p * x) hb, ap (λ (x : ℕ). n * x) hb)

sound : (e : E) → Is ⟦ e ⟧ (P e) (N e)
sound (` z) = omega arith
sound (# n) = omega arith
sound (a ⊕ b) = omega (arith, is-add ⟦ a ⟧ ⟦ b ⟧, sound a, sound b)
sound (a ⊖ b) = omega (arith, is-add ⟦ a ⟧ (neg_ℤ ⟦ b ⟧), is-neg ⟦ b ⟧, sound a, sound b)
sound (a ⊗ b) = omega (arith, is_mul ⟦ a ⟧ ⟦ b ⟧, mul-step (up ⟦ a ⟧) (down ⟦ a ⟧) (up ⟦ b ⟧) (down ⟦ b ⟧) (P a) (N a) (P b) (N b) (sound a) (sound b))
sound (⊝ a) = omega (arith, is-neg ⟦ a ⟧, sound a)

-- to prove over ℤ
pub eq! : (a b : E) → P a + N b ≡ P b + N a → ⟦ a ⟧ ≡ ⟦ b ⟧
eq! a b h = ud-eq ⟦ a ⟧ ⟦ b ⟧ (omega (arith, sound a, sound b))

pub le! : (a b : E) → P a + N b ≤ P b + N a → ⟦ a ⟧ ≤ℤ ⟦ b ⟧
le! a b h = ud-le ⟦ a ⟧ ⟦ b ⟧ (omega (arith, sound a, sound b))

pub lt! : (a b : E) → P a + N b < P b + N a → ⟦ a ⟧ <ℤ ⟦ b ⟧
lt! a b h = ud-lt ⟦ a ⟧ ⟦ b ⟧ (omega (arith, sound a, sound b))

-- to use what is known over ℤ
pub eq? : (a b : E) → ⟦ a ⟧ ≡ ⟦ b ⟧ → P a + N b ≡ P b + N a
eq? a b h = omega (arith, eq-ud h, sound a, sound b)

-- ---- the ring's laws
pub *ℤ-assoc : (a b c : ℤ) → (a *ℤ b) *ℤ c ≡ a *ℤ (b *ℤ c)
*ℤ-assoc a b c = eq! (` a ⊗ ` b ⊗ ` c) (` a ⊗ (` b ⊗ ` c)) (omega arith)

pub *ℤ-+ℤ : (a b c : ℤ) → a *ℤ (b +ℤ c) ≡ a *ℤ b +ℤ a *ℤ c
*ℤ-+ℤ a b c = eq! (` a ⊗ (` b ⊕ ` c)) (` a ⊗ ` b ⊕ ` a ⊗ ` c) (omega arith)

pub +ℤ-*ℤ : (a b c : ℤ) → (a +ℤ b) *ℤ c ≡ a *ℤ c +ℤ b *ℤ c
+ℤ-*ℤ a b c = eq! ((` a ⊕ ` b) ⊗ ` c) (` a ⊗ ` c ⊕ ` b ⊗ ` c) (omega arith)

-- ---- a signed value fits its type
mag-lt : (z : ℤ) (B : ℕ) → up z < down z + B → down z ≤ up z + B → mag z < B
mag-lt (pos n) B h k = omega arith
mag-lt (negsuc n) B h k = omega arith

pub sfits! : (w : Width) (e : E) → P e < N e + 2 ^ hbits w → N e ≤ P e + 2 ^ hbits w → SFits w ⟦ e ⟧
sfits! w e h k = record { sfits = mag-lt ⟦ e ⟧ (2 ^ hbits w) (omega (arith, sound e)) (omega (arith, sound e)) }

-- to use that a value fits, or that its absolute value is small
pub abs-ud : (z : ℤ) → nat_abs z ≡ up z + down z
abs-ud (pos n) = omega arith
abs-ud (negsuc n) = omega arith

pub abs-le : (z : ℤ) (B : ℕ) → up z ≤ down z + B → down z ≤ up z + B → nat_abs z ≤ B
abs-le (pos n) B h k = omega arith
abs-le (negsuc n) B h k = omega arith

pub mag-ud : (z : ℤ) → (up z ≤ mag z) × (down z ≤ suc (mag z))
mag-ud (pos n) = (omega arith, omega arith)
mag-ud (negsuc n) = (omega arith, omega arith)

-- ---- the sign of a value
pub neg-sign : (z : ℤ) → lt_z z (pos 0) ≡ true → T (non_neg (pos 0 -ℤ z)) × (nat_abs (pos 0 -ℤ z) ≡ nat_abs z)
neg-sign (pos n) l = absurd (omega (arith, ltb-true n 0 l))
neg-sign (negsuc n) l = (tt, omega arith)

pub pos-sign : (z : ℤ) → lt_z z (pos 0) ≡ false → T (non_neg z)
pos-sign (pos n) l = tt
pos-sign (negsuc n) l = absurd (true≢false l)

-- ---- in code a signed local holds bits, and each reading of one is to_z (of_z z)
pub tz : {w : Width} {z z' : ℤ} → z ≡ z' → SFits w z' → to_z w (of_z w z) ≡ z'
tz {w} {z} {z'} e f = ap (λ (y : ℤ). to_z w (of_z w y)) e ∙ to_z-of_z f

pub sfits-to : {w : Width} {z z' : ℤ} → z ≡ z' → SFits w z' → SFits w z
sfits-to {w} e f = subst (SFits w) (sym e) f

pub *ℤ-left-comm : (a b c : ℤ) → a *ℤ (b *ℤ c) ≡ b *ℤ (a *ℤ c)
*ℤ-left-comm a b c = eq! (` a ⊗ (` b ⊗ ` c)) (` b ⊗ (` a ⊗ ` c)) (omega arith)

pub +ℤ-left-comm : (a b c : ℤ) → a +ℤ (b +ℤ c) ≡ b +ℤ (a +ℤ c)
+ℤ-left-comm a b c = eq! (` a ⊕ (` b ⊕ ` c)) (` b ⊕ (` a ⊕ ` c)) (omega arith)

pub ruleset ringℤ = (+ℤ-*ℤ, *ℤ-+ℤ, *ℤ-assoc, *ℤ_comm, *ℤ-left-comm, +ℤ_assoc, +ℤ_comm, +ℤ-left-comm)
