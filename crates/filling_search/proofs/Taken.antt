-- Whether a filling is the one that is taken, from any frame of its class: the last block of the frame with the filling taken out is of the class of the
-- leader's last block, so the blocks of all fillings are of one class each, and have one energy. For every kind of the table, every grade, free count and
-- number. Assumes nothing.
use Prim.Native.Nat.{ℕ, ◌+◌, ◌-◌, ◌*◌, ◌^◌, ◌≤◌, ◌<◌}
use mathlib.Core.Path.{◌≡◌, sym, ap, ◌∙◌}
use mathlib.Core.Bool.{true, false}
use mathlib.Core.List.{List}
use native.Mathlib.Omega.{arith}
use lib.ListN.{length, get_or}
use lib.Seq.{ext_get_or}
use lib.Pow.{pow_pos}
use lib.IntN.{ℤ, pos, ◌+ℤ◌, ◌-ℤ◌, ◌*ℤ◌}
use Rattle.integers.proofs.Zed.{`◌, #◌, ◌⊕◌, ◌⊖◌, eq!, eq?}
use Rattle.e8.specs.Energy.{energy}
use Rattle.e8.specs.Lattice.{InBlock, part, moved}
use Rattle.e8.proofs.Group.{moved_length}
use Rattle.e8.proofs.Ties.{block_by-class}
use Rattle.frames.specs.Kind.{is_kind, levels, blocks}
use Rattle.frames.specs.Message.{leader}
use Rattle.frames.specs.Frame.{half, SameClass}
use Rattle.frames.specs.Free.{filled, FreeMessage, quiet_filling}
use Rattle.frames.proofs.Frame.{at, part_length, moved_at}
use Rattle.frames.proofs.Limits.{some_block}
use Rattle.free_bits.proofs.First.{first_least-ext}
use Rattle.leader.proofs.Laid.{long}
use Rattle.filling_search.specs.Filling.{filling_numbers, shifted_block, filled_block, quiet_of}
use Rattle.filling_search.proofs.Tried.{shifted-size, shifted_at, filled-size, filled_at}
use Rattle.filling_search.proofs.Quieted.{last-is, filling-is}

-- ---- a block x of the class of L with the filling φ

module _ (a b f H φ : ℕ) (x L : List ℤ) (ex : length x ≡ 8) (el : length L ≡ 8) (i : InBlock H x (filled_block a b f φ L)) where
  -- with φ taken out of it
  abbrev y : List ℤ
  y = shifted_block true a b f φ x

  ey : length y ≡ 8
  ey = shifted-size a b f φ x ex true

  -- any filling put into it is of the class of L with that filling
  other-class : (ψ : ℕ) → InBlock H (filled_block a b f ψ y) (filled_block a b f ψ L)
  other-class ψ = record { ws = i.ws; long = as_long; is = ext_get_or (pos 0) (filled_block a b f ψ L) (moved H X i.ws) sizes each; point = i.point }
    where
      X : List ℤ
      X = filled_block a b f ψ y

      eight : length X ≡ 8
      eight = filled-size a b f ψ y ey

      as_long : length i.ws ≡ length X
      as_long = i.long ∙ ex ∙ sym eight

      sizes : length (filled_block a b f ψ L) ≡ length (moved H X i.ws)
      sizes = filled-size a b f ψ L el ∙ sym (moved_length H X i.ws as_long ∙ eight)

      each : (o : ℕ) → o < length (filled_block a b f ψ L) → at (filled_block a b f ψ L) o ≡ at (moved H X i.ws) o
      each o l =
          let h : o < 8 = omega (arith, l, filled-size a b f ψ L el) in
          let m : ℕ = 2 ^ a * get_or (filling_numbers b f φ) o 0 in
          let n : ℕ = 2 ^ a * get_or (filling_numbers b f ψ) o 0 in
          let w : ℤ = pos H *ℤ at i.ws o in
          let given : at L o +ℤ pos m ≡ at x o -ℤ w =
          sym (filled_at a b f φ L el o h) ∙ ap (λ (z : List ℤ). at z o) i.is ∙ moved_at H x i.ws i.long o (omega (arith, ex, h)) in
          let moves : at L o +ℤ pos n ≡ at x o -ℤ pos m +ℤ pos n -ℤ w =
          eq! (` at L o ⊕ # n) (` at x o ⊖ # m ⊕ # n ⊖ ` w) (omega (arith, eq? (` at L o ⊕ # m) (` at x o ⊖ ` w) given)) in
          filled_at a b f ψ L el o h ∙ moves
          ∙ ap (λ (z : ℤ). z +ℤ pos n -ℤ w) (sym (shifted_at a b f φ x ex true o h))
          ∙ ap (λ (z : ℤ). z -ℤ w) (sym (filled_at a b f ψ y ey o h))
          ∙ sym (moved_at H X i.ws as_long o (omega (arith, eight, h)))

-- ---- a frame of the class of a filling

module _ (k b f : ℕ) (kind : is_kind k ≡ true) (low : 1 ≤ b) (high : b ≤ 4) (few : f ≤ 4) (bytes : List ℕ) (m : FreeMessage k b f bytes)
    (φ : ℕ) (below : φ < 2 ^ f) (frame : List ℤ) (d : SameClass k b frame (leader k b (filled k b f φ bytes))) where
  abbrev n : ℕ
  n = blocks k - 1

  inside : n < blocks k
  inside = omega (arith, some_block k kind)

  -- the filling that is taken, as the last block of the frame tells it
  pub quietest-is : (number : ℕ) → quiet_of (levels k) b f (shifted_block true (levels k) b f φ (part n frame)) ≡ quiet_filling k b f number bytes
  unfolding quiet_of half
  quietest-is number =
      first_least-ext (2 ^ f) (λ ψ l. ap energy (block_by-class (half k b) (pow_pos (levels k + b - 1)) false _ _
      (filled-size (levels k) b f ψ y' (shifted-size (levels k) b f φ x ex true)) (other-class (levels k) b f (half k b) φ x L ex el class ψ)))
      ∙ filling-is k b f kind low high few bytes m number
    where
      x : List ℤ
      x = part n frame

      L : List ℤ
      L = part n (leader k b bytes)

      y' : List ℤ
      y' = shifted_block true (levels k) b f φ x

      ex : length x ≡ 8
      ex = part_length frame (blocks k) n d.whole inside

      el : length L ≡ 8
      el = part_length (leader k b bytes) (blocks k) n (long k b kind bytes) inside

      class : InBlock (half k b) x (filled_block (levels k) b f φ L)
      class = rw (last-is k b f kind low high few bytes m φ below) (d.blocks n inside)
