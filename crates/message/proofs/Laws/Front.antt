-- A message's answer depends on its own bytes alone.
use Prim.Native.Nat.{ℕ, ◌+◌, ◌<◌, ◌≤◌}
use mathlib.Core.Path.{◌≡◌, sym, ap, ap₂, ◌∙◌}
use mathlib.Core.Bool.{cond, ◌&&◌}
use mathlib.Core.List.{List}
use native.Mathlib.Omega.{arith}
use lib.Dec.{eqb}
use lib.ListN.{length, take, length-take}
use lib.Seq.{take-take}
use Rattle.fields.specs.Bytes.{part}
use Rattle.fields.specs.Checks.{or_else}
use Rattle.fields.proofs.Laws.Bytes.{front-part}
use Rattle.fields.proofs.Laws.Checks.{zero-else, else-second, else-zero}
use Rattle.header.specs.Header.{Header}
use Rattle.header.specs.HeaderReader as header
use Rattle.header.specs.HeaderReader.{header_of, header_fault}
use Rattle.header.proofs.Laws.Front.{header-front, fault-front}
use Rattle.message.specs.declared.Layout.{Layout}
use Rattle.message.specs.MessageReader.{body_fault, body_clean, body_at, front_fault, stream_fault, step_of, places_of, refused, accepted, read_of}
use Rattle.message.proofs.Laws.Stream.{is_some, whole-pass, whole-passed, whole-refused, step-whole, read_step}
use Rattle.message.proofs.Laws.Read.{front-refused}

-- ---- whether the front is whole

pub front-pass : (s : List ℕ) → header_fault s ≡ 0 → 58 + (header_of s).body_size ≤ length s → front_fault s ≡ 0
unfolding front_fault
front-pass s z h = else-zero (header_fault s) _ z (whole-pass s h)

pub front-passed : (s : List ℕ) → front_fault s ≡ 0 → (header_fault s ≡ 0) × (58 + (header_of s).body_size ≤ length s)
unfolding front_fault
front-passed s z = let k = zero-else (header_fault s) _ z in (k.0, whole-passed s k.1)

-- a message that has begun and is not whole
pub read-begun : (l : Layout) (s : List ℕ) → header_fault s ≡ 0 → length s < 58 + (header_of s).body_size → read_of l s ≡ refused 1 0
unfolding front_fault
read-begun l s z h =
    let k : front_fault s ≡ 1 = else-second (header_fault s) _ z ∙ whole-refused s h in
    front-refused l s (is_some (front_fault s) 0 k) ∙ ap (λ (n : ℕ). refused n 0) k

pub read-whole-step : (l : Layout) (s : List ℕ) → front_fault s ≡ 0 → (read_of l s).step ≡ 58 + (header_of s).body_size
read-whole-step l s z = read_step l s ∙ step-whole s z

-- ---- two streams that have the message at the front in common

module _ (s t : List ℕ) (z : front_fault s ≡ 0) (e : take (58 + (header_of s).body_size) s ≡ take (58 + (header_of s).body_size) t) where
  same-header : take 58 s ≡ take 58 t
  same-header =
      let n : ℕ = 58 + (header_of s).body_size in
      sym (take-take 58 n s (omega arith)) ∙ ap (take 58) e ∙ take-take 58 n t (omega arith)

  same_body : body_at s ≡ body_at t
  same_body =
      front-part (58 + (header_of s).body_size) (header_of s).body_size 58 s t (omega arith) e
      ∙ ap (λ (h : Header). part h.body_size 58 t) (header-front s t same-header)

  also-whole : front_fault t ≡ 0
  also-whole =
      let n : ℕ = 58 + (header_of s).body_size in
      let k = front-passed s z in
      let b : (header_of s).body_size ≡ (header_of t).body_size = ap (λ (h : Header). h.body_size) (header-front s t same-header) in
      front-pass t (sym (fault-front s t same-header) ∙ k.0) (omega (arith, k.1, b, length-take n s, length-take n t, ap length e))

  same_number : (l : Layout) → stream_fault l s ≡ stream_fault l t
  unfolding stream_fault
  same_number l =
      ap₂ or_else (z ∙ sym also-whole)
      (ap₂ (λ (h : Header) (b : List ℕ). body_fault l h.version h.crc h.type_text b) (header-front s t same-header) same_body)

  same_step : step_of s ≡ step_of t
  same_step =
      step-whole s z ∙ ap (λ (h : Header). 58 + h.body_size) (header-front s t same-header) ∙ sym (step-whole t also-whole)

  pub read-front : (l : Layout) → read_of l s ≡ read_of l t
  unfolding read_of
  read-front l =
      let h = header-front s t same-header in
      λ i.
      cond (eqb (same_number l i) 0)
      (accepted (header.handed (h i)) (places_of l (h i).version (same_body i)) ((header.handed (h i)).clean && body_clean l (h i).version (h i).type_text (same_body i)))
      (refused (same_number l i) (same_step i))
