-- What samples cost, cited by the contracts of these functions and of `search`: the nearest multiple of an even number, and the squared distances
-- of samples from the numbers that level words leave. A word is held in a number: bit p is its value at p. Samples are counted in 256ths, squared
-- distances in parts of 1 / 65,536. Assumes nothing.
use Rattle.std.specs.Prelude.{ℕ, ◌+◌, ◌*◌, ◌/◌, ◌%◌, ◌≡◌, ◌⊎◌, List, ltb, length, get_or, ℤ, pos, ◌+ℤ◌, ◌-ℤ◌, ◌*ℤ◌}
use Rattle.std.specs.Int.Signed.{shr_z}
use Rattle.bits.specs.Number.{sum_to, table, number, given, bit_of}
use Rattle.e8.specs.Energy.{sq}

-- which multiple of 2·H is nearest to x
unfoldable pub nearest : ℕ → ℤ → ℤ
nearest H x = shr_z (x +ℤ pos H) (2 * H)

-- its squared distance from x
unfoldable pub gap : ℕ → ℤ → ℕ
unfolding nearest sq
gap H x = sq (x -ℤ pos (2 * H) *ℤ nearest H x)

-- half the multiples in use: those of 2 whole numbers, and those of 4
abbrev pub Half : ℕ → Type 0
Half h = (h ≡ 256) ⊎ (h ≡ 512)

-- the squared distance of sample p from the nearest whole number of residue c modulo 2, where half is 256, or modulo 4, where it is 512
abbrev pub cost_at : ℕ → List ℤ → ℕ → ℕ → ℕ
cost_at half t p c = gap half (get_or t p (pos 0) -ℤ pos (256 * c))

-- coordinate p modulo 4, where a and b are the words of levels 0 and 1
abbrev pub residue : ℕ → ℕ → ℕ → ℕ
residue a b p = bit_of a p + 2 * bit_of b p

-- the squared distance of sample p from the nearest whole number of that residue
abbrev pub cost : List ℤ → ℕ → ℕ → ℕ → ℕ
cost t a b p = cost_at 512 t p (residue a b p)

-- that number
abbrev pub candidate : List ℤ → ℕ → ℕ → ℕ → ℤ
candidate t a b p = pos 4 *ℤ nearest 512 (get_or t p (pos 0) -ℤ pos (256 * residue a b p)) +ℤ pos (residue a b p)

-- the squared distance of sample p from the nearest whole number of the parity of bit p of a
abbrev pub parity_cost : List ℤ → ℕ → ℕ → ℕ
parity_cost t a p = cost_at 256 t p (bit_of a p)

-- ---- level 0

-- the costs of both parities of each sample: at 2p + c that of parity c of sample p
unfoldable pub parity_costs : List ℤ → List ℕ
unfolding table gap
parity_costs t = table (2 * length t) (λ i. cost_at 256 t (i / 2) (i % 2))

-- ---- level 1

-- the word of level 1 whose numbers are nearest to the samples, where a is the word of level 0: its bit at p is 1 where that costs less
unfoldable pub nearest_word : List ℤ → ℕ → ℕ
unfolding sum_to gap
nearest_word t a = number (length t) (λ p. given (ltb (cost_at 512 t p (bit_of a p + 2)) (cost_at 512 t p (bit_of a p))) 1)

-- the costs of keeping and of changing each bit of the word `base` of level 1: at 2p + c that of bit p, changed where c is 1
unfoldable pub change_costs : List ℤ → ℕ → ℕ → List ℕ
unfolding table gap
change_costs t a base = table (2 * length t) (λ i. cost_at 512 t (i / 2) (bit_of a (i / 2) + 2 * ((bit_of base (i / 2) + i % 2) % 2)))
