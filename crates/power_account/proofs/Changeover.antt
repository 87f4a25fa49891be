-- The changeover of an account: it stays, it parts the frames by their rule, no figure and no answer hangs on it, and the strict reading takes each
-- frame under the number that it gave. Assumes nothing.
use Prim.Native.Nat.{ℕ, max, ◌+◌, ◌<◌, ◌≤◌}
use mathlib.Core.Path.{◌≡◌, refl, sym, ap, ap₂, ◌∙◌}
use mathlib.Core.Bool.{Bool, true, false, cond}
use mathlib.Core.List.{List, [], ◌∷◌}
use lib.Dec.{eqb}
use lib.ListN.{length, get_or}
use lib.Ieee.{binary64, add}
use borrow.Author.Tests.{eqb-true, le-leb, lt-leb}
use Rattle.frames.specs.Message.{Bytes}
use Rattle.frames.specs.Frame.{sent_frame}
use Rattle.frames.specs.Free.{quiet_frame}
use Rattle.frames.specs.Demands.{ReadBack}
use Rattle.frames.proofs.Numbered.{number-zero}
use Rattle.free_bits.proofs.Fillings.{none-quiet}
use Rattle.free_bits.proofs.LastBlock.{same_taken}
use Rattle.free_bits.proofs.Strict.{read_back}
use Rattle.power_account.specs.declared.Account.{Account}
use Rattle.power_account.specs.Power.{power_of}
use Rattle.power_account.specs.Counted.{number_for, counted_refusal}
use Rattle.power_account.specs.History.{Call, answer, after, account_after, sent_by, accepted, frame_under, no_call, SameFigures}
use Rattle.power_account.proofs.History.{sends, tests, frame-length, after-sent, after-refused, after-changeover, history-numbered}

-- the changeover stays
pub changeover-kept : (a : Account) (cs : List Call) → (account_after a cs).changeover ≡ a.changeover
unfolding account_after
changeover-kept a [] = refl
changeover-kept a (c ∷ cs) = changeover-kept (after a c) cs ∙ after-changeover a c

-- ---- "FRAMES BELOW IT FOLLOW THE OLD RULE AND THOSE FROM IT ON THE NEW": frame i of the history of any account, and the call that sent it

module _ (a : Account) (cs : List Call) (i : ℕ) (h : i < length (sent_by a cs)) where
  -- that call
  abbrev sender : Call
  sender = get_or (accepted a cs) i no_call

  -- below it, that of number 0
  pub old_below : a.count + i < a.changeover → get_or (sent_by a cs) i [] ≡ frame_under 0 sender
  old_below l =
      let z = lt-leb a.changeover (a.count + i) l in
      (history-numbered a cs).each i h ∙ ap (λ (v : Bool). frame_under (cond v (a.count + i) 0) sender) z

  -- which is document 01's frame where no bit is free
  pub old-frame : a.count + i < a.changeover → sender.free ≡ 0 → get_or (sent_by a cs) i [] ≡ sent_frame sender.kind sender.grade sender.message
  old-frame l z =
      old_below l ∙ ap (λ (f : ℕ). quiet_frame sender.kind sender.grade f 0 sender.message) z
      ∙ none-quiet sender.kind sender.grade 0 sender.message ∙ number-zero sender.kind sender.grade sender.message

  -- from it on, that of the count before it
  pub new-from : a.changeover ≤ a.count + i → get_or (sent_by a cs) i [] ≡ frame_under (a.count + i) sender
  new-from l =
      let z = le-leb a.changeover (a.count + i) l in
      (history-numbered a cs).each i h ∙ ap (λ (v : Bool). frame_under (cond v (a.count + i) 0) sender) z

-- ---- NO BREAK IN ITS FIGURES: accounts that hold the same but for their changeover

module _ {a b : Account} (s : SameFigures a b) (c : Call) where
  -- answer the same
  pub same_answer : answer a c ≡ answer b c
  unfolding counted_refusal
  same_answer = rw s.count

  -- and hold the same after a call: the power and the largest block of a frame are the same under both numbers
  same_after : SameFigures (after a c) (after b c)
  same_after = go (eqb (answer a c) 0) refl
    where
      go : (v : Bool) → eqb (answer a c) 0 ≡ v → SameFigures (after a c) (after b c)
      go true q =
          let e = eqb-true _ _ q in
          let p = tests a c e in
          let n = frame-length a c e (number_for a) ∙ sym (frame-length a c e (number_for b)) in
          let same = same_taken c.kind c.grade c.free (number_for a) (number_for b) p.kind c.message in
          rw (after-sent a c q, after-sent b c (ap (λ (x : ℕ). eqb x 0) (sym same_answer) ∙ q)) (record {
            count = ap (λ (x : ℕ). x + 1) s.count;
            sum = ap₂ (add binary64) s.sum (ap₂ power_of same.same-energy n);
            largest = ap₂ max s.largest same.same-largest;
          })
      go false q = rw (after-refused a c q, after-refused b c (ap (λ (x : ℕ). eqb x 0) (sym same_answer) ∙ q)) s

-- also after any calls
pub same-figures : {a b : Account} → SameFigures a b → (cs : List Call) → SameFigures (account_after a cs) (account_after b cs)
unfolding account_after
same-figures s [] = s
same-figures {a = a} {b = b} s (c ∷ cs) = same-figures {a = after a c} {b = after b c} (same_after s c) cs

-- and accept the same of them
pub same-accepted : {a b : Account} → SameFigures a b → (cs : List Call) → accepted a cs ≡ accepted b cs
unfolding accepted
same-accepted s [] = refl
same-accepted {a = a} {b = b} s (c ∷ cs) =
    ap₂ (λ (x : ℕ) (ds : List Call). cond (eqb x 0) (c ∷ ds) ds) (same_answer s c) (same-accepted {a = after a c} {b = after b c} (same_after s c) cs)

-- ---- the strict reading

-- WHAT IS SENT WITH AN ACCOUNT is taken by the strict reading under the number that the account had for it, and gives the message back
pub sent-strictly : (a : Account) (c : Call) → Bytes c.message → answer a c ≡ 0 → ReadBack c.kind c.grade c.free (number_for a) c.message
sent-strictly a c each e =
    let n = (tests a c e).coordinates in
    read_back c.kind c.grade c.free (number_for a) c.message each (rw n at (sends a c e))
