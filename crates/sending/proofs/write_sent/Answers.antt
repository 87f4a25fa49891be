-- `write_sent` meets its contract: with the filling that is taken in its last block the leader is that filling's, and shaped the frame that is sent.
-- Assumes nothing.
use Rattle.std.proofs.Common.{◌≡◌, ℕ, ◌^◌, ◌≤◌, true, List, length, sym, ap, ap₂, ◌∙◌, subst, arith, rules}
use lib.IntN.{ℤ}
use Rattle.e8.specs.Energy.{energy, Within}
use Rattle.e8.specs.Largest.{largest_block}
use Rattle.frames.specs.Kind.{is_kind, levels, blocks}
use Rattle.frames.specs.Message.{leader}
use Rattle.frames.specs.Frame.{half, is_odd}
use Rattle.e8.specs.Ties.{least_frame_by}
use Rattle.frames.specs.Free.{FreeMessage, filled, filled_frame, quiet_filling, quiet_frame}
use Rattle.frames.proofs.One.{leader-length}
use Rattle.frames.proofs.Limits.{some_level, few-levels, some_block, whole-blocks}
use Rattle.leader.proofs.Laid.{leader-near}
use Rattle.filling_search.specs.Filling.{quiet_last}
use Rattle.filling_search.proofs.Quieted.{quiet-leader}
use Rattle.sending.proofs.Sent.{leader-takes, sent_is}
use Rattle.sending.proofs.write_sent.Goals as goal

-- the filling that is sent
abbrev quiet : ℕ → ℕ → ℕ → ℕ → List ℕ → List ℕ
quiet k b f number bytes = filled k b f (quiet_filling k b f number bytes) bytes

-- the leader as the filling is put into it
large : (k b : ℕ) (bytes : List ℕ) (f : List ℤ) → is_kind k ≡ true → b ≤ 4 → f ≡ leader k b bytes → (8 ≤ length f) × Within (2 ^ 9) f
large k b bytes f kind high is = subst (λ (f : List ℤ). (8 ≤ length f) × Within (2 ^ 9) f) (sym is) (
  omega (arith, leader-length k b bytes, whole-blocks k kind, some_block k kind),
  leader-near k b kind bytes high,
)

-- and what is sent of that
sent : (k b f number : ℕ) (bytes : List ℕ) (g : List ℤ) → g ≡ leader k b (quiet k b f number bytes)
    → least_frame_by (is_odd number) (half k b) (blocks k) g ≡ quiet_frame k b f number bytes
unfolding quiet_frame filled_frame
sent k b f number bytes g is = sent_is k b (quiet k b f number bytes) g is number

-- with that filling put in, the leader of the sent message
filled_is : (k b f number : ℕ) (bytes : List ℕ) → is_kind k ≡ true → 1 ≤ b → b ≤ 4 → f ≤ 4 → FreeMessage k b f bytes → (a : ℕ) (l g : List ℤ)
    → a ≡ levels k → l ≡ leader k b bytes → g ≡ quiet_last a b f l → g ≡ leader k b (quiet k b f number bytes)
filled_is k b f number bytes kind low high few m a l g n is e =
    e ∙ ap₂ (λ (a : ℕ) (l : List ℤ). quiet_last a b f l) n is ∙ quiet-leader k b f kind low high few bytes m number

pub fill_last-requires : goal.fill_last-requires
fill_last-requires c =
    let g = c.args in
    let p = c.requires in
    let t = large g.kind g.grade g.message.now _ p.0 p.2 c.write_leader.ensures in
    (omega (arith, some_level g.kind p.0), omega (arith, few-levels g.kind p.0), p.1, p.2, omega arith, t.0, t.1)

pub shape_leader-requires : goal.shape_leader-requires
shape_leader-requires c =
    let g = c.args in
    let p = c.requires in
    let is = filled_is g.kind g.grade g.free g.number g.message.now p.0 p.1 p.2 p.3 p.4 c.levels.result _ _ c.levels.ensures c.write_leader.ensures
    (search rules) in
    let t = leader-takes g.kind g.grade (quiet g.kind g.grade g.free g.number g.message.now) c.fill_last.new.leader is p.0 p.2 in
    (p.0, p.1, p.2, t.0, t.1)

pub returns-clause-frame : goal.returns-clause-frame
returns-clause-frame c =
    let g = c.args in
    let p = c.requires in
    let is = filled_is g.kind g.grade g.free g.number g.message.now p.0 p.1 p.2 p.3 p.4 c.levels.result _ _ c.levels.ensures c.write_leader.ensures
    (search rules) in
    c.shape_leader.ensures.frame ∙ sent g.kind g.grade g.free g.number g.message.now c.fill_last.new.leader is

pub returns-clause-energy : goal.returns-clause-energy
returns-clause-energy c =
    let g = c.args in
    let p = c.requires in
    let is = filled_is g.kind g.grade g.free g.number g.message.now p.0 p.1 p.2 p.3 p.4 c.levels.result _ _ c.levels.ensures c.write_leader.ensures
    (search rules) in
    c.shape_leader.ensures.energy ∙ ap energy (sent g.kind g.grade g.free g.number g.message.now c.fill_last.new.leader is)

pub returns-clause-largest : goal.returns-clause-largest
returns-clause-largest c =
    let g = c.args in
    let p = c.requires in
    let is = filled_is g.kind g.grade g.free g.number g.message.now p.0 p.1 p.2 p.3 p.4 c.levels.result _ _ c.levels.ensures c.write_leader.ensures
    (search rules) in
    c.shape_leader.ensures.largest ∙ ap largest_block (sent g.kind g.grade g.free g.number g.message.now c.fill_last.new.leader is)
