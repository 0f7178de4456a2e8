-- The reader's numbers are at most 11.
use Prim.Native.Nat.{ℕ, zero, suc, ◌≤◌}
use native.Mathlib.Omega.{arith}
use mathlib.Core.Bool.{Bool, true, false, cond}
use mathlib.Core.List.{List}
use lib.Dec.{eqb}
use Rattle.fields.specs.Bytes.{same}
use Rattle.fields.specs.Checks.{or_else}
use Rattle.fields.proofs.Laws.Tests.{by-test}
use Rattle.pose.specs.TransformReader.{transform_fault}
use Rattle.pose.specs.PositionReader.{count_fault, position_fault}
use Rattle.image.specs.declared.ImageHeader.{ImageHeader}
use Rattle.image.specs.ImageReader.{rule_fault, image_fault}
use Rattle.bind_layout.specs.BindLayout.{layout_fault}
use Rattle.content.specs.Kinds.{transform_text, position_text, image_text, bind_text, kind_of}
use Rattle.content.specs.ContentCheck.{kind_fault, children_fault, bind_fault, content_fault}
use Rattle.header.specs.HeaderReader.{short_fault, texts_fault, limit_fault, header_fault}
use Rattle.metadata.specs.MetadataCheck.{metadata_fault}
use Rattle.message.specs.declared.Layout.{Layout}
use Rattle.message.specs.declared.Layout.TheVariants.{New, Old}
use Rattle.message.specs.Body.{Sections}
use Rattle.message.specs.MessageReader.{sections_of, extended_fault, sizes_fault, whole_fault, version_fault, crc_fault, contents_fault, sections_fault, found_fault, body_fault, front_fault, stream_fault, read_of}

-- ---- the reader's numbers

or-within : (a b : ℕ) → a ≤ 11 → b ≤ 11 → or_else a b ≤ 11
or-within zero b h k = k
or-within (suc a) b h k = h

cond-within : (t : Bool) (x y : ℕ) → x ≤ 11 → y ≤ 11 → cond t x y ≤ 11
cond-within true x y h k = h
cond-within false x y h k = k

transform-within : (s : List ℕ) → transform_fault s ≤ 11
unfolding transform_fault
transform-within s = cond-within _ 0 8 (omega arith) (omega arith)

count-within : (n : ℕ) → count_fault n ≤ 11
unfolding count_fault
count-within n = cond-within _ 0 8 (omega arith) (omega arith)

position-within : (s : List ℕ) → position_fault s ≤ 11
unfolding position_fault
position-within s = cond-within _ _ 8 (count-within _) (omega arith)

rule-within : (h : ImageHeader) (n : ℕ) → rule_fault h n ≤ 11
unfolding rule_fault
rule-within h n = cond-within _ 0 9 (omega arith) (omega arith)

image-within : (s : List ℕ) → image_fault s ≤ 11
unfolding image_fault
image-within s = cond-within _ _ 9 (rule-within _ _) (omega arith)

none-within : 0 ≤ 11
none-within = omega arith

-- a content of the type with this text, where `bind` judges a BIND
kind-within : (bind : List ℕ → ℕ) → ((s : List ℕ) → bind s ≤ 11) → (t s : List ℕ) → kind_fault bind (kind_of t) s ≤ 11
unfolding kind_of
kind-within bind h t s =
    by-test (same t transform_text) (λ a. rw a (transform-within s))
    (λ a. by-test (same t position_text) (λ b. rw (a, b) (position-within s))
    (λ b. by-test (same t image_text) (λ c. rw (a, b, c) (image-within s))
    (λ c. by-test (same t bind_text) (λ d. rw (a, b, c, d) (h s)) (λ d. rw (a, b, c, d) none-within))))

children-within : (bind : List ℕ → ℕ) → ((s : List ℕ) → bind s ≤ 11) → (k : ℕ) (h d : List ℕ) → children_fault bind k h d ≤ 11
unfolding children_fault
children-within bind w zero h d = omega arith
children-within bind w (suc k) h d = or-within _ _ (kind-within bind w _ _) (children-within bind w k _ _)

bind-within : (levels : ℕ) (s : List ℕ) → bind_fault levels s ≤ 11
unfolding bind_fault layout_fault
bind-within zero s = omega arith
bind-within (suc levels) s = or-within _ _ (cond-within _ 0 10 (omega arith) (omega arith)) (children-within (bind_fault levels) (bind-within levels) _ _ _)

contents-within : (t content metadata : List ℕ) → contents_fault t content metadata ≤ 11
unfolding content_fault metadata_fault
contents-within t content metadata =
    or-within _ _ (cond-within _ 0 _ (omega arith) (cond-within _ 0 7 (omega arith) (omega arith))) (kind-within (bind_fault 4) (bind-within 4) _ content)

sizes-within : (l : Layout) (version : ℕ) (b s : List ℕ) → sizes_fault l version b s ≤ 11
unfolding sizes_fault
sizes-within New version b s = cond-within _ _ 0 (cond-within _ 0 7 (omega arith) (omega arith)) (omega arith)
sizes-within Old version b s = cond-within _ 0 0 (omega arith) (omega arith)

found-within : (l : Layout) (version : ℕ) (t b : List ℕ) (x : Sections) → found_fault l version t b x ≤ 11
unfolding found_fault sections_fault
found-within l version t b x = or-within _ _ (sizes-within l version b x.metadata) (contents-within t x.content x.metadata)

version-within : (version : ℕ) → version_fault version ≤ 11
unfolding version_fault
version-within version = cond-within _ 0 4 (omega arith) (omega arith)

crc-within : (crc : ℕ) (b : List ℕ) → crc_fault crc b ≤ 11
unfolding crc_fault
crc-within crc b = cond-within _ 0 5 (omega arith) (omega arith)

extended-within : (l : Layout) (version : ℕ) (b : List ℕ) → extended_fault l version b ≤ 11
unfolding extended_fault
extended-within l version b = cond-within _ _ 0 (cond-within _ 0 6 (omega arith) (omega arith)) (omega arith)

body-within : (l : Layout) (version crc : ℕ) (t b : List ℕ) → body_fault l version crc t b ≤ 11
unfolding body_fault
body-within l version crc t b =
    or-within _ _ (version-within version)
    (or-within _ _ (crc-within crc b) (or-within _ _ (extended-within l version b) (found-within l version t b (sections_of l version b))))

front-within : (s : List ℕ) → front_fault s ≤ 11
unfolding front_fault header_fault short_fault texts_fault limit_fault whole_fault
front-within s =
    or-within _ _
    (or-within _ _ (cond-within _ 0 1 (omega arith) (omega arith))
    (or-within _ _ (cond-within _ 0 2 (omega arith) (omega arith)) (cond-within _ 0 3 (omega arith) (omega arith))))
    (cond-within _ 0 1 (omega arith) (omega arith))

stream-within : (l : Layout) (s : List ℕ) → stream_fault l s ≤ 11
unfolding stream_fault
stream-within l s = or-within _ _ (front-within s) (body-within l _ _ _ _)

pub read-within : (l : Layout) (s : List ℕ) → (read_of l s).number ≤ 11
unfolding read_of
read-within l s = by-test (eqb (stream_fault l s) 0) (λ e. rw e none-within) (λ e. rw e (stream-within l s))
