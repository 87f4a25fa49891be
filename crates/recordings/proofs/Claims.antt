-- WHAT REQUEST E9 CLAIMS, sentence by sentence. For every kind, every grade and all samples. Assumes nothing.
use Prim.Native.Nat.{ℕ, ◌≤◌, ◌<◌}
use mathlib.Core.Path.{◌≡◌, refl, sym, ap, ap₂, ◌∙◌, subst}
use mathlib.Core.Logic.{◌⊎◌, inl, inr}
use mathlib.Core.Bool.{Bool, true, false, true≢false}
use mathlib.Core.List.{List, []}
use native.Mathlib.Decide.{ℕ_discrete, dec_lt}
use native.Mathlib.Omega.{arith}
use lib.Dec.{ltb}
use lib.Ieee.{Float}
use lib.Ieee.Exact.{HasValue}
use Rattle.octets.specs.Same.{same_bytes}
use Rattle.octets.proofs.Compared.{same-exactly, no_truth}
use Rattle.frames.specs.Kind.{is_grade, message_bytes}
use Rattle.frames.specs.Message.{Message}
use Rattle.frames.specs.Frame.{numbered_frame}
use Rattle.frames.proofs.Demands.{sent-in-set}
use Rattle.frames.proofs.Reading.{read-sent}
use Rattle.samples.specs.Sample.{samples_in_256ths}
use Rattle.near_frames.specs.Near.{near_kind, nearness}
use Rattle.near_frames.proofs.NearKinds.{near-is-kind}
use Rattle.near_reading.specs.Answer.{near_distance}
use Rattle.recordings.specs.Recording.{recording_number, recording_message, recording_distance, RecordingOf, NearTo, IsRefused}
use Rattle.recordings.specs.Choice.{Chosen, First, Second, Neither, choice, handed, chosen_number, handed_back, closer_number}
use Rattle.recordings.specs.Claims.{IsChoice, AtOdds, Equal, BothRefused, NumberExactly, HandedBack, NoFarther, ComparedExactly}
use Rattle.recordings.specs.Claims.{exchanged, Exchange, TwiceRecorded, DifferentSent}
use Rattle.recordings.proofs.Recording.{number-high, judged, closer-exact, distance-exact}
use Rattle.recordings.proofs.Choices as by

module _ {k b : ℕ} {xs : List Float} where
  refused-number : IsRefused k b xs → recording_number k b xs ≡ 0 → ⊥
  refused-number r z = r (recording_message k b xs) (recording_distance k xs) ((judged k b xs).near-only z)

  number-refused : (recording_number k b xs ≡ 0 → ⊥) → IsRefused k b xs
  number-refused h m d at = h ((judged k b xs).near at)

-- ---- the choice by the request's sentences

module _ (k b : ℕ) (xs ys : List Float) where
  -- both are near to one message
  module _ {m : List ℕ} {d e : ℕ} (at : NearTo k b xs m d) (to : NearTo k b ys m e) where
    same : same_bytes (recording_message k b xs) (recording_message k b ys) ≡ true
    same = (same-exactly (recording_message k b xs) (recording_message k b ys)).same ((judged k b xs).one-message at ∙ sym ((judged k b ys).one-message to))

    the-first : d ≤ e → choice k b xs ys ≡ First
    the-first h = sym (by.first-closer k b xs ys ((judged k b xs).near at) ((judged k b ys).near to) same
        (omega (arith, h, (judged k b xs).one-distance at, (judged k b ys).one-distance to)))

    the_second : e < d → choice k b xs ys ≡ Second
    the_second h = sym (by.second-closer k b xs ys ((judged k b xs).near at) ((judged k b ys).near to) same
        (omega (arith, h, (judged k b xs).one-distance at, (judged k b ys).one-distance to)))

  odds-by : (m n : List ℕ) (d e : ℕ) → NearTo k b xs m d → NearTo k b ys n e → (m ≡ n → ⊥) → choice k b xs ys ≡ Neither 18
  odds-by m n d e at to h = sym (by.at-odds k b xs ys ((judged k b xs).near at) ((judged k b ys).near to)
      (no_truth (same_bytes (recording_message k b xs) (recording_message k b ys)) differ))
    where
      differ : same_bytes (recording_message k b xs) (recording_message k b ys) ≡ true → ⊥
      differ e = h (sym ((judged k b xs).one-message at)
          ∙ (same-exactly (recording_message k b xs) (recording_message k b ys)).same-only e ∙ (judged k b ys).one-message to)

  -- THE CHOICE is what they say
  pub choice-is : IsChoice k b xs ys (choice k b xs ys)
  choice-is = record {
    first-closer = λ m d e at to h. the-first at to (omega (arith, h));
    second-closer = λ m d e at to h. the_second at to h;
    equal = λ m d at to. the-first at to (omega arith);
    first-refused = λ m d r to. sym (by.first-refused k b xs ys (refused-number r) ((judged k b ys).near to));
    second-refused = λ m d at r. sym (by.second-refused k b xs ys ((judged k b xs).near at) (refused-number r));
    both-refused = λ r s. sym (by.both-refused k b xs ys (refused-number r) (refused-number s));
    at-odds = odds-by;
  }

-- the cases that they tell apart
data Case (k b : ℕ) (xs ys : List Float) : Type 0 where
  first-closer : (m : List ℕ) (d e : ℕ) → NearTo k b xs m d → NearTo k b ys m e → d < e → Case k b xs ys
  second-closer : (m : List ℕ) (d e : ℕ) → NearTo k b xs m d → NearTo k b ys m e → e < d → Case k b xs ys
  equal : Equal k b xs ys → Case k b xs ys
  first-refused : (m : List ℕ) (d : ℕ) → IsRefused k b xs → NearTo k b ys m d → Case k b xs ys
  second-refused : (m : List ℕ) (d : ℕ) → NearTo k b xs m d → IsRefused k b ys → Case k b xs ys
  both-refused : BothRefused k b xs ys → Case k b xs ys
  at-odds : AtOdds k b xs ys → Case k b xs ys

module _ (k b : ℕ) (xs ys : List Float) where
  abbrev m₁ : List ℕ
  m₁ = recording_message k b xs

  abbrev m₂ : List ℕ
  m₂ = recording_message k b ys

  abbrev d₁ : ℕ
  d₁ = recording_distance k xs

  abbrev d₂ : ℕ
  d₂ = recording_distance k ys

  -- it is one of them
  case : Case k b xs ys
  case = go (ℕ_discrete (recording_number k b xs) 0) (ℕ_discrete (recording_number k b ys) 0)
    where
      by-distance : NearTo k b xs m₁ d₁ → NearTo k b ys m₁ d₂ → Dec (d₁ < d₂) → Dec (d₂ < d₁) → Case k b xs ys
      by-distance at to (yes h) t = first-closer m₁ d₁ d₂ at to h
      by-distance at to (no h) (yes g) = second-closer m₁ d₁ d₂ at to g
      by-distance at to (no h) (no g) =
          let e : d₂ ≡ d₁ = omega (arith, h, g) in
          equal (record { message = m₁; distance = d₁; first = at; second = subst (NearTo k b ys m₁) e to })

      both : NearTo k b xs m₁ d₁ → NearTo k b ys m₂ d₂ → (t : Bool) → same_bytes m₁ m₂ ≡ t → Case k b xs ys
      both at to true e =
          by-distance at (subst (λ m. NearTo k b ys m d₂) (sym ((same-exactly m₁ m₂).same-only e)) to) (dec_lt d₁ d₂) (dec_lt d₂ d₁)
      both at to false e = at-odds (record {
        messages = (m₁, m₂);
        distances = (d₁, d₂);
        first = at;
        second = to;
        differ = λ s. true≢false (sym ((same-exactly m₁ m₂).same s) ∙ e);
      })

      go : Dec (recording_number k b xs ≡ 0) → Dec (recording_number k b ys ≡ 0) → Case k b xs ys
      go (no p) (no q) = both-refused (record { first = number-refused p; second = number-refused q })
      go (no p) (yes q) = first-refused m₂ d₂ (number-refused p) ((judged k b ys).near-only q)
      go (yes p) (no q) = second-refused m₁ d₁ ((judged k b xs).near-only p) (number-refused q)
      go (yes p) (yes q) = both ((judged k b xs).near-only p) ((judged k b ys).near-only q) (same_bytes m₁ m₂) refl

  -- what they say in each
  abbrev said : Case k b xs ys → Chosen
  said (first-closer m d e at to h) = First
  said (second-closer m d e at to h) = Second
  said (equal e) = First
  said (first-refused m d r to) = Second
  said (second-refused m d at r) = First
  said (both-refused r) = Neither (recording_number k b xs)
  said (at-odds o) = Neither 18

  is_said : {c : Chosen} → IsChoice k b xs ys c → (a : Case k b xs ys) → c ≡ said a
  is_said i (first-closer m d e at to h) = i.first-closer m d e at to h
  is_said i (second-closer m d e at to h) = i.second-closer m d e at to h
  is_said i (equal e) = i.equal e.message e.distance e.first e.second
  is_said i (first-refused m d r to) = i.first-refused m d r to
  is_said i (second-refused m d at r) = i.second-refused m d at r
  is_said i (both-refused r) = i.both-refused r.first r.second
  is_said i (at-odds o) = i.at-odds o.messages.0 o.messages.1 o.distances.0 o.distances.1 o.first o.second o.differ

  -- THERE IS NO OTHER
  pub choice-only : (c : Chosen) → IsChoice k b xs ys c → c ≡ choice k b xs ys
  choice-only c i = is_said i case ∙ sym (is_said (choice-is k b xs ys) case)

  -- what holds of the choice that is said in each case holds of the choice
  by-case : (P : Chosen → Type 0) → ((a : Case k b xs ys) → P (said a)) → P (choice k b xs ys)
  by-case P each = subst P (sym (is_said (choice-is k b xs ys) case)) (each case)

  the-choice : (a : Case k b xs ys) → choice k b xs ys ≡ said a
  the-choice a = is_said (choice-is k b xs ys) a

  -- ---- "0 when a recording was chosen, the first's when both are refused. (18: at odds, when both are near and their messages differ ..)"

  chosen_by : {c : Chosen} → (c ≡ First) ⊎ (c ≡ Second) → chosen_number c ≡ 0
  chosen_by (inl e) = ap chosen_number e
  chosen_by (inr e) = ap chosen_number e

  chosen-only-by : (a : Case k b xs ys) → chosen_number (said a) ≡ 0 → (said a ≡ First) ⊎ (said a ≡ Second)
  chosen-only-by (first-closer m d e at to h) z = inl refl
  chosen-only-by (second-closer m d e at to h) z = inr refl
  chosen-only-by (equal e) z = inl refl
  chosen-only-by (first-refused m d r to) z = inr refl
  chosen-only-by (second-refused m d at r) z = inl refl
  chosen-only-by (both-refused r) z = absurd (refused-number r.first z)
  chosen-only-by (at-odds o) z = absurd (omega (arith, z))

  odds-only-by : (a : Case k b xs ys) → chosen_number (said a) ≡ 18 → AtOdds k b xs ys
  odds-only-by (first-closer m d e at to h) z = absurd (omega (arith, z))
  odds-only-by (second-closer m d e at to h) z = absurd (omega (arith, z))
  odds-only-by (equal e) z = absurd (omega (arith, z))
  odds-only-by (first-refused m d r to) z = absurd (omega (arith, z))
  odds-only-by (second-refused m d at r) z = absurd (omega (arith, z))
  odds-only-by (both-refused r) z = absurd (omega (arith, z, number-high k b xs))
  odds-only-by (at-odds o) z = o

  refused-only-by : (a : Case k b xs ys) → (chosen_number (said a) ≡ 0 → ⊥) → (chosen_number (said a) ≡ 18 → ⊥) → BothRefused k b xs ys
  refused-only-by (first-closer m d e at to h) z w = absurd (z refl)
  refused-only-by (second-closer m d e at to h) z w = absurd (z refl)
  refused-only-by (equal e) z w = absurd (z refl)
  refused-only-by (first-refused m d r to) z w = absurd (z refl)
  refused-only-by (second-refused m d at r) z w = absurd (z refl)
  refused-only-by (both-refused r) z w = r
  refused-only-by (at-odds o) z w = absurd (w refl)

  pub number-exactly : NumberExactly k b xs ys
  number-exactly = record {
    chosen = chosen_by;
    chosen-only = by-case (λ c. chosen_number c ≡ 0 → (c ≡ First) ⊎ (c ≡ Second)) chosen-only-by;
    odds = λ o. ap chosen_number (the-choice (at-odds o));
    odds-only = by-case (λ c. chosen_number c ≡ 18 → AtOdds k b xs ys) odds-only-by;
    refused = λ r. ap chosen_number (the-choice (both-refused r));
    refused-only = by-case (λ c. (chosen_number c ≡ 0 → ⊥) → (chosen_number c ≡ 18 → ⊥) → BothRefused k b xs ys) refused-only-by;
  }

  -- ---- what is handed back: one of the two, or the empty part

  none-by : (c : Chosen) → (chosen_number c ≡ 0 → ⊥) → handed c xs ys [] ≡ []
  none-by First h = absurd (h refl)
  none-by Second h = absurd (h refl)
  none-by (Neither n) h = refl

  one-by : (c : Chosen) → (c ≡ First) ⊎ (c ≡ Second) → (handed c xs ys [] ≡ xs) ⊎ (handed c xs ys [] ≡ ys)
  one-by c (inl e) = inl (ap (λ a. handed a xs ys []) e)
  one-by c (inr e) = inr (ap (λ a. handed a xs ys []) e)

  pub handed-back : HandedBack k b xs ys
  handed-back = record {
    none = none-by (choice k b xs ys);
    one = λ z. one-by (choice k b xs ys) (number-exactly.chosen-only z);
  }

-- ---- it is near to the message of either that is near, and no farther than either

-- a recording is near to one message at one distance
only_one : {k b : ℕ} {xs : List Float} {m n : List ℕ} {d e : ℕ} → NearTo k b xs m d → NearTo k b xs n e → (n ≡ m) × (d ≤ e)
only_one {k} {b} {xs} at to =
    let j = judged k b xs in
    (sym (j.one-message to) ∙ j.one-message at, omega (arith, j.one-distance at, j.one-distance to))

module _ (k b : ℕ) (xs ys : List Float) where
  no-farther-by : (a : Case k b xs ys) → chosen_number (said k b xs ys a) ≡ 0 → NoFarther k b xs ys (handed (said k b xs ys a) xs ys [])
  no-farther-by (first-closer m d e at to h) z =
      record { message = m; distance = d; near = at; first = λ n g p. only_one at p; second = λ n g p. let o = only_one to p in (o.0, omega (arith, h, o.1)) }
  no-farther-by (second-closer m d e at to h) z =
      record { message = m; distance = e; near = to; first = λ n g p. let o = only_one at p in (o.0, omega (arith, h, o.1)); second = λ n g p. only_one to p }
  no-farther-by (equal e) z =
      record {
        message = e.message;
        distance = e.distance;
        near = e.first;
        first = λ n g p. only_one e.first p;
        second = λ n g p. only_one e.second p;
      }
  no-farther-by (first-refused m d r to) z =
      record { message = m; distance = d; near = to; first = λ n g p. absurd (r n g p); second = λ n g p. only_one to p }
  no-farther-by (second-refused m d at r) z =
      record { message = m; distance = d; near = at; first = λ n g p. only_one at p; second = λ n g p. absurd (r n g p) }
  no-farther-by (both-refused r) z = absurd (refused-number r.first z)
  no-farther-by (at-odds o) z = absurd (omega (arith, z))

  pub no-farther : closer_number k b xs ys ≡ 0 → NoFarther k b xs ys (handed_back k b xs ys)
  no-farther = by-case k b xs ys (λ c. chosen_number c ≡ 0 → NoFarther k b xs ys (handed c xs ys [])) no-farther-by

  -- ---- "closer": the exact distances

  pub compared-exactly : (m n : List ℕ) (d e : ℕ) → NearTo k b xs m d → NearTo k b ys n e → ComparedExactly k b xs ys d e
  compared-exactly m n d e at to =
      let i = judged k b xs in
      let j = judged k b ys in
      let z = sym i.as_read ∙ i.near at in
      let w = sym j.as_read ∙ j.near to in
      record {
        first = subst (λ (g : ℕ). HasValue (near_distance k b xs (message_bytes k b)) false g 65536) (i.one-distance at)
            (distance-exact k b xs (message_bytes k b) z);
        second = subst (λ (g : ℕ). HasValue (near_distance k b ys (message_bytes k b)) false g 65536) (j.one-distance to)
            (distance-exact k b ys (message_bytes k b) w);
        as-f64 = closer-exact k b xs ys (message_bytes k b) (message_bytes k b) z w ∙ ap₂ ltb (j.one-distance to) (i.one-distance at);
      }

  -- ---- the two recordings exchanged

  -- the same case the other way round
  abbrev turned : Case k b xs ys → Case k b ys xs
  turned (first-closer m d e at to h) = second-closer m e d to at h
  turned (second-closer m d e at to h) = first-closer m e d to at h
  turned (equal e) = equal (record { message = e.message; distance = e.distance; first = e.second; second = e.first })
  turned (first-refused m d r to) = second-refused m d to r
  turned (second-refused m d at r) = first-refused m d r at
  turned (both-refused r) = both-refused (record { first = r.second; second = r.first })
  turned (at-odds o) = at-odds (record {
    messages = (o.messages.1, o.messages.0);
    distances = (o.distances.1, o.distances.0);
    first = o.second;
    second = o.first;
    differ = λ e. o.differ (sym e);
  })

  -- the choice both ways, in a case
  ways : (a : Case k b xs ys) → (choice k b xs ys ≡ said k b xs ys a) × (choice k b ys xs ≡ said k b ys xs (turned a))
  ways a = (the-choice k b xs ys a, the-choice k b ys xs (turned a))

  unchanged-by : (a : Case k b xs ys) → (Equal k b xs ys → ⊥) → (BothRefused k b xs ys → ⊥) → (AtOdds k b xs ys → ⊥)
      → choice k b ys xs ≡ exchanged (choice k b xs ys)
  unchanged-by a h r o = (ways a).1 ∙ go a ∙ sym (ap exchanged (ways a).0)
    where
      go : (a : Case k b xs ys) → said k b ys xs (turned a) ≡ exchanged (said k b xs ys a)
      go (first-closer m d e at to h) = refl
      go (second-closer m d e at to h) = refl
      go (equal e) = absurd (h e)
      go (first-refused m d r to) = refl
      go (second-refused m d at r) = refl
      go (both-refused s) = absurd (r s)
      go (at-odds s) = absurd (o s)

  same-number-by : (a : Case k b xs ys) → (BothRefused k b xs ys → ⊥) → closer_number k b ys xs ≡ closer_number k b xs ys
  same-number-by a r = ap chosen_number (ways a).1 ∙ go a ∙ sym (ap chosen_number (ways a).0)
    where
      go : (a : Case k b xs ys) → chosen_number (said k b ys xs (turned a)) ≡ chosen_number (said k b xs ys a)
      go (first-closer m d e at to h) = refl
      go (second-closer m d e at to h) = refl
      go (equal e) = refl
      go (first-refused m d r to) = refl
      go (second-refused m d at r) = refl
      go (both-refused s) = absurd (r s)
      go (at-odds s) = refl

  pub exchange : Exchange k b xs ys
  exchange = record {
    unchanged = unchanged-by (case k b xs ys);
    equal = λ e. ways (equal e);
    refused = λ r. ways (both-refused r);
    odds = λ o. ways (at-odds o);
    same_number = same-number-by (case k b xs ys);
  }

-- ---- "Both record the same frame."

-- a recording of a sent frame is near to its message
sent-near : (k b : ℕ) → near_kind k ≡ true → is_grade b ≡ true → (number : ℕ) (message : List ℕ) → Message k b message → (xs : List Float)
    → RecordingOf k xs (numbered_frame k b number message)
    → NearTo k b xs message (nearness (numbered_frame k b number message) (samples_in_256ths xs))
sent-near k b kind grade number message m xs r = record {
  kind = kind;
  grade = grade;
  frame = numbered_frame k b number message;
  coded = sent-in-set k b (near-is-kind k kind) grade number message;
  recorded = r;
  message = read-sent k b (near-is-kind k kind) grade number message m;
  distance = refl;
}

pub twice-recorded : TwiceRecorded
twice-recorded k b kind grade number message m xs ys r s =
    let at = sent-near k b kind grade number message m xs r in
    let to = sent-near k b kind grade number message m ys s in
    let zs = handed_back k b xs ys in
    let z : closer_number k b xs ys ≡ 0 = chosen at to (dec_lt _ _) in
    let f = no-farther k b xs ys z in
    let e : f.message ≡ message = sym (f.first message _ at).0 in
    let near : NearTo k b zs message (recording_distance k zs) =
    subst (NearTo k b zs message) (sym ((judged k b zs).one-distance f.near)) (subst (λ n. NearTo k b zs n f.distance) e f.near) in
    record { number = z; one = (handed-back k b xs ys).one z; read = (judged k b zs).reads near }
  where
    chosen : {d e : ℕ} → NearTo k b xs message d → NearTo k b ys message e → Dec (e < d) → closer_number k b xs ys ≡ 0
    chosen at to (yes h) = ap chosen_number (the_second k b xs ys at to h)
    chosen at to (no h) = ap chosen_number (the-first k b xs ys at to (omega (arith, h)))

pub different-sent : DifferentSent
different-sent k b kind grade i j u v m n h xs ys r s =
    odds-by k b xs ys u v _ _ (sent-near k b kind grade i u m xs r) (sent-near k b kind grade j v n ys s) h
