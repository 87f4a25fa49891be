-- `is_taken`: the last block of the frame, which is small, tells the filling that is taken. Assumes nothing.
use Prim.Native.Nat.{ℕ, ◌-◌, ◌*◌, ◌^◌, ◌≤◌, ◌<◌}
use mathlib.Core.Path.{◌≡◌, sym, ap, ap₂, ◌∙◌, subst}
use mathlib.Core.Bool.{true}
use mathlib.Core.List.{List}
use native.Mathlib.Omega.{arith}
use lib.Dec.{eqb, leb}
use lib.ListN.{length, take, drop, length-take, length-drop}
use lib.IntN.{ℤ}
use borrow.Author.Tests.{le-leb}
use borrow.Author.Rules.{rules}
use Rattle.e8.specs.Energy.{Within}
use Rattle.e8.specs.Lattice.{part}
use Rattle.e8.proofs.Within.{within-to, within-part}
use Rattle.frames.specs.Kind.{levels, blocks, scale}
use Rattle.frames.specs.Message.{leader}
use Rattle.frames.specs.Frame.{SameClass}
use Rattle.frames.specs.Free.{is_free_count, filled, filling, quiet_filling}
use Rattle.frames.specs.Reading.{open_message, fixed_message}
use Rattle.frames.proofs.Rows.{grade-low, grade-high}
use Rattle.frames.proofs.Limits.{some_level, few-levels, some_block, whole-blocks, scale-128}
use Rattle.frames.proofs.Demands.{read-message, leader-class}
use Rattle.free_bits.proofs.Filled.{filling-below}
use Rattle.free_bits.proofs.ReadBack.{fixed-message, fixed-filled}
use Rattle.filling_search.specs.Filling.{is_quietest, shifted_block, quiet_of}
use Rattle.filling_search.proofs.Taken.{quietest-is}
use Rattle.quiet_test.proofs.is_taken.Statement.{statement}
use Rattle.quiet_test.proofs.is_taken.Tie as tie

module _ (s : tie.Start) where
  abbrev k : ℕ
  k = s.args.kind

  abbrev b : ℕ
  b = s.args.grade

  abbrev f : ℕ
  f = s.args.free

  abbrev frame : List ℤ
  frame = s.args.frame.now

  abbrev own : ℕ
  own = filling k b f (open_message k b frame)

  few : is_free_count f ≡ true
  unfolding is_free_count
  few = le-leb f 4 s.requires.3

  long : length frame ≡ 8 * blocks k
  long = omega (arith, s.requires.4.long, whole-blocks k s.requires.0)

  some : 1 ≤ blocks k
  some = some_block k s.requires.0

  -- the part from 8 before the end is the last block
  last : take (length frame - (length frame - 8)) (drop (length frame - 8) frame) ≡ part (blocks k - 1) frame
  last =
      let e : length frame - (length frame - 8) ≡ 8 = omega (arith, long, some) in
      let p : length frame - 8 ≡ 8 * (blocks k - 1) = omega (arith, long, some) in
      ap₂ (λ (n m : ℕ). take n (drop m frame)) e p

  near : Within (2 ^ 7) (part (blocks k - 1) frame)
  near = within-part (2 ^ 7) (blocks k - 1) frame (within-to (scale k b) (2 ^ 7) frame (scale-128 k b s.requires.0 s.requires.1) s.requires.5)

  -- the frame is of the class of its own filling
  class : SameClass k b frame (leader k b (filled k b f own (fixed_message k b f frame)))
  class = subst (λ (x : List ℕ). SameClass k b frame (leader k b x)) (sym (fixed-filled k b f s.requires.0 s.requires.1 few frame s.requires.4))
      (leader-class k b s.requires.0 s.requires.1 frame s.requires.4)

  taken : quiet_of (levels k) b f (shifted_block true (levels k) b f own (part (blocks k - 1) frame)) ≡ quiet_filling k b f 0 (fixed_message k b f frame)
  taken = quietest-is k b f s.requires.0 (grade-low b s.requires.1) (grade-high b s.requires.1) s.requires.3 (fixed_message k b f frame)
      (fixed-message k b f s.requires.0 s.requires.1 few frame s.requires.4) own (filling-below k b f (open_message k b frame)) frame class 0

x-is : (l : tie.After-load-x) → let s = l.before.before.before in l.load-x.result ≡ part (blocks (k s) - 1) (frame s)
x-is l = let s = l.before.before.before in l.load-x.ensures ∙ last s

phi-is : (p : tie.After-filling_of-phi) → p.filling_of-phi.result ≡ own p.before.before.before.before
phi-is p =
    let s = p.before.before.before.before in
    p.filling_of-phi.ensures ∙ ap (filling (k s) (b s) (f s)) s.requires.6

sub-s : tie.Need-overflow_sub-s
sub-s c = omega (arith, long c.before, some c.before)

mul-load : tie.Need-offset_bounds-frame-s
mul-load c = search rules

sub-load : tie.Need-slice_bounds-load-count
sub-load c = search rules

part-load-start : tie.Need-slice_bounds-load-start
part-load-start c = search rules

part-load-end : tie.Need-slice_bounds-load-end
part-load-end c = search rules

load-requires : tie.Need-load-x-requires
load-requires c κs = let s = c.before.before in simp (length-take, length-drop) (omega (arith, long s, some s))

filling-of-requires : tie.Need-filling_of-phi-requires
filling-of-requires c κs =
    let s = c.before.before.before in
    let p = s.requires in
    (p.0, p.1, p.2, p.3, rw p.6 (read-message (k s) (b s) p.0 p.1 (frame s) p.4))

levels-requires : tie.Need-levels-requires
levels-requires c κs = search rules

is-quietest-requires : tie.Need-is_quietest-requires
is-quietest-requires c κs =
    let q = c.before in
    let l = q.before in
    let s = l.before.before.before in
    let p = s.requires in (
      omega (arith, c.levels.ensures, some_level (k s) p.0),
      omega (arith, c.levels.ensures, few-levels (k s) p.0),
      grade-low (b s) p.1,
      grade-high (b s) p.1,
      p.3,
      subst (λ (n : ℕ). n < 2 ^ f s) (sym (phi-is q)) (filling-below (k s) (b s) (f s) (open_message (k s) (b s) (frame s))),
      subst (Within (2 ^ 7)) (sym (x-is l)) (near s),
    )

returns : tie.Need-returns
unfolding is_quietest
returns c =
    let v = c.before in
    let q = v.before in
    let l = q.before in
    let s = l.before.before.before in
    c.is_quietest.ensures
    ∙ ap₂ (λ (a : ℕ) (x : List ℤ). is_quietest a (b s) (f s) q.filling_of-phi.result x) v.levels.ensures (x-is l)
    ∙ ap (λ (φ : ℕ). is_quietest (levels (k s)) (b s) (f s) φ (part (blocks (k s) - 1) (frame s))) (phi-is q)
    ∙ ap (λ (n : ℕ). eqb n (own s)) (taken s)

pub is_taken_spec : {M : Type 1} → statement M
is_taken_spec =
    tie.close
    (tie.spec
    sub-s
    mul-load
    sub-load
    part-load-start
    part-load-end
    load-requires
    filling-of-requires
    levels-requires
    is-quietest-requires
    returns)
