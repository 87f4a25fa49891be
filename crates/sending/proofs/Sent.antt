-- From the leader to the sent frame: the leader can be shaped, what is shaped is the sent frame, and it is whole blocks of small coordinates. Assumes nothing.
use Prim.Native.Nat.{ℕ, ◌+◌, ◌-◌, ◌*◌, ◌/◌, ◌%◌, ◌^◌, ◌≤◌}
use mathlib.Core.Path.{◌≡◌, sym, ap, ap₂, ◌∙◌, subst}
use mathlib.Core.Bool.{Bool, true}
use mathlib.Core.List.{List}
use native.Mathlib.Omega.{arith}
use lib.ListN.{length}
use lib.IntN.{ℤ}
use lib.Pow.{pow_mono}
use Rattle.e8.specs.Energy.{Within}
use Rattle.e8.specs.Ties.{least_frame_by}
use Rattle.e8.proofs.Within.{within-to}
use Rattle.e8.proofs.Ties.{least_frame_by-size, least_frame_by-within}
use Rattle.frames.specs.Kind.{is_kind, levels, blocks}
use Rattle.frames.specs.Message.{leader}
use Rattle.frames.specs.Frame.{half, is_odd, numbered_frame}
use Rattle.frames.proofs.One.{leader-length}
use Rattle.frames.proofs.Demands.{half_pos}
use Rattle.frames.proofs.Limits.{few-levels, few-positions, some_block, whole-blocks}
use Rattle.leader.proofs.Laid.{leader-within}

module _ (k b : ℕ) (kind : is_kind k ≡ true) (low : 1 ≤ b) (high : b ≤ 4) (f : List ℤ) (long : length f ≡ 2 ^ k) where
  -- by half the scale
  pub least-is : (last : Bool) (a : ℕ) → a ≡ levels k → least_frame_by last (2 ^ (a + b - 1)) (length f / 8) f ≡ least_frame_by last (half k b) (blocks k) f
  unfolding half
  least-is last a e =
      let n : length f / 8 ≡ blocks k = omega (arith, long, whole-blocks k kind) in
      ap₂ (λ (m n : ℕ). least_frame_by last (2 ^ (m + b - 1)) n f) e n

  -- what `shape` asks
  pub shape-takes : Within (2 ^ 24) f → (length f % 8 ≡ 0) × (length f ≤ 1024) × Within (2 ^ 24) f × (8 ≤ length f)
  shape-takes near =
      (omega (arith, long, whole-blocks k kind), omega (arith, long, few-positions k kind), near, omega (arith, long, whole-blocks k kind, some_block k kind))

  -- the shaped frame: what its energies ask
  pub energy-takes : (last : Bool) (g : List ℤ) → g ≡ least_frame_by last (half k b) (blocks k) f → (length g % 8 ≡ 0) × (length g ≤ 1024) × Within (2 ^ 10) g
  unfolding half
  energy-takes last g is =
      let e = ap length is ∙ least_frame_by-size (half k b) (half_pos k b) last (blocks k) f (omega (arith, long, whole-blocks k kind)) in
      let small : 2 * half k b ≤ 2 ^ 10 = omega (arith, pow_mono {i = levels k + b - 1} {j = 9} (omega (arith, few-levels k kind))) in (
        omega (arith, e),
        omega (arith, e, whole-blocks k kind, few-positions k kind),
        subst (Within (2 ^ 10)) (sym is) (within-to (2 * half k b) (2 ^ 10) (least_frame_by last (half k b) (blocks k) f) small
            (least_frame_by-within (half k b) (half_pos k b) last (blocks k) f)),
      )

module _ (k b : ℕ) (bytes : List ℕ) (f : List ℤ) (is : f ≡ leader k b bytes) where
  -- what `shape_leader` asks of the leader
  pub leader-takes : is_kind k ≡ true → b ≤ 4 → (length f ≡ 2 ^ k) × Within (2 ^ 24) f
  leader-takes kind high = (ap length is ∙ leader-length k b bytes, subst (Within (2 ^ 24)) (sym is) (leader-within k b kind bytes high))

  -- and what it makes of it
  pub sent_is : (number : ℕ) → least_frame_by (is_odd number) (half k b) (blocks k) f ≡ numbered_frame k b number bytes
  unfolding numbered_frame
  sent_is number = ap (least_frame_by (is_odd number) (half k b) (blocks k)) is
