-- What the code's panel stands for says which panel it is: a call that gives back what it got in the definitions' words gives back the same panel.
use mathlib.Core.Path.{◌≡◌, refl, sym, ap}
use mathlib.Core.Bool.{false≢true}
use mathlib.Core.List.{List, [], ◌∷◌, map}
use lib.ListN.{length}
use native.Mathlib.Omega.{arith}
use Rattle.std.specs.Prelude.{ℕ, Option, Some, None}
use Rattle.panel.specs.declared.Received.{Received}
use Rattle.panel.specs.declared.Tile as tile
use Rattle.panel.specs.declared.Panel as code
use Rattle.panel.specs.Records.{Tile, Panel}
use Rattle.panel.specs.Tiles.{counted_by, since_link_of, clock_of, value_in, tile_of}
use Rattle.panel.specs.Calls.{panel_of}

same-received : (x y : Option Received) → counted_by x ≡ counted_by y → since_link_of x ≡ since_link_of y → clock_of x ≡ clock_of y
    → value_in x ≡ value_in y → x ≡ y
same-received None None a b c d = refl
same-received None (Some y) a b c d = absurd (false≢true a)
same-received (Some x) None a b c d = absurd (false≢true (sym a))
same-received (Some x) (Some y) a b c d = λ j. Some (record { clock = c j; value = d j; since_link = b j })

same-tile : (x y : Option tile.Tile) → tile_of x ≡ tile_of y → x ≡ y
same-tile None None e = refl
same-tile None (Some y) e = absurd (false≢true (ap (λ (t : Tile). t.used) e))
same-tile (Some x) None e = absurd (false≢true (sym (ap (λ (t : Tile). t.used) e)))
same-tile (Some x) (Some y) e =
    let l = same-received x.last y.last (ap (λ (t : Tile). t.counted) e) (ap (λ (t : Tile). t.since_link) e) (ap (λ (t : Tile). t.clock) e)
    (ap (λ (t : Tile). t.value) e) in
    λ j. Some (record { label = (e j).label; hold_time = (e j).hold_time; last = l j })

head-same : (x y : Tile) (l m : List Tile) → ◌≡◌ {A = List Tile} (x ∷ l) (y ∷ m) → x ≡ y
head-same x y l m e = ap (λ (k : List Tile). first k x) e
  where
    first : List Tile → Tile → Tile
    first [] d = d
    first (z ∷ k) d = z

tail-same : (x y : Tile) (l m : List Tile) → ◌≡◌ {A = List Tile} (x ∷ l) (y ∷ m) → l ≡ m
tail-same x y l m e = ap rest e
  where
    rest : List Tile → List Tile
    rest [] = []
    rest (z ∷ k) = k

same-tiles : (l m : List (Option tile.Tile)) → map tile_of l ≡ map tile_of m → l ≡ m
same-tiles [] [] e = refl
same-tiles [] (y ∷ m) e = absurd (let n : ◌≡◌ {A = ℕ} (length {A = Tile} []) (length (map tile_of (y ∷ m))) = ap length e in omega (arith, n))
same-tiles (x ∷ l) [] e = absurd (let n : ◌≡◌ {A = ℕ} (length (map tile_of (x ∷ l))) (length {A = Tile} []) = ap length e in omega (arith, n))
same-tiles (x ∷ l) (y ∷ m) e =
    let h = same-tile x y (head-same (tile_of x) (tile_of y) (map tile_of l) (map tile_of m) e) in
    let t = same-tiles l m (tail-same (tile_of x) (tile_of y) (map tile_of l) (map tile_of m) e) in
    λ j. h j ∷ t j

pub same-panel : (p q : code.Panel) → panel_of p ≡ panel_of q → p ≡ q
same-panel p q e =
    let t = same-tiles p.tiles q.tiles (ap (λ (x : Panel). x.tiles) e) in
    λ j. record { tiles = t j; link = (e j).link }
