-- Layers by their names, as the engine keeps them and as the machine has them.
use Rattle.std.proofs.Common.{◌≡◌, ◌≤◌, List, [], ◌∷◌, ◌++◌, length, map, Bool, true, false, not, ◌||◌, cond, true≢false, bytes_eq, suc, refl, sym, ap, subst, ◌∙◌, arith}
use Rattle.std.proofs.lemmas.List.{length-map, map-append}
use Rattle.std.proofs.lemmas.Slice.Eq.{bytes_eq-Decides}
use Rattle.line_engine.proofs.Names.{bytes_eq-sym}
use Rattle.line_engine.specs.Stands.{AreApart, layer_of}
use Rattle.relay_machine.specs.Machine.{Layer, is_layer, without_layer}
use Rattle.plan_ir.specs.schema_tables.Types.{Text}
use Rattle.store_layers.specs.Layered as layered
use Rattle.store_layers.specs.Layered.{above, is_live, without}

pub first_false : (a b : Bool) → (a || b) ≡ false → a ≡ false
first_false true b h = h
first_false false b h = refl

pub second_false : (a b : Bool) → (a || b) ≡ false → b ≡ false
second_false true b h = absurd (true≢false h)
second_false false b h = h

-- ---- whether a layer has a name

pub live_is : (ls : List Layer) (name : Text) → is_live (map layer_of ls) name ≡ is_layer ls name
live_is [] name = refl
live_is (l ∷ ls) name = λ i. bytes_eq-sym name l.name i || live_is ls name i

layer_after : (ls : List Layer) (l : Layer) (name : Text) → is_layer ls name ≡ false → bytes_eq l.name name ≡ false → is_layer (ls ++ l ∷ []) name ≡ false
layer_after [] l name h last = ap (λ b. b || false) last
layer_after (m ∷ ls) l name h last =
    (λ i. first_false (bytes_eq m.name name) (is_layer ls name) h i || layer_after ls l name (second_false (bytes_eq m.name name) (is_layer ls name) h) last i)

-- ---- a layer more

other_name : (ls : List Layer) (l m : Layer) → is_layer (m ∷ ls) l.name ≡ false → bytes_eq l.name m.name ≡ false
other_name ls l m free = bytes_eq-sym l.name m.name ∙ first_false (bytes_eq m.name l.name) (is_layer ls l.name) free

pub apart_after : (ls : List Layer) (l : Layer) → AreApart ls → is_layer ls l.name ≡ false → AreApart (ls ++ l ∷ [])
apart_after [] l apart free = (refl, tt)
apart_after (m ∷ ls) l apart free =
    (layer_after ls l m.name apart.0 (other_name ls l m free), apart_after ls l apart.1 (second_false (bytes_eq m.name l.name) (is_layer ls l.name) free))

pub layers_after : (ls : List Layer) (l : Layer) → map layer_of (ls ++ l ∷ []) ≡ map layer_of ls ++ layer_of l ∷ []
layers_after ls l = map-append layer_of ls (l ∷ [])

-- ---- a layer less

keep : (name : Text) (l : Layer) (ls : List Layer) → bytes_eq l.name name ≡ false → without_layer name (l ∷ ls) ≡ l ∷ without_layer name ls
keep name l ls h = ap (λ b. cond (not b) (l ∷ without_layer name ls) (without_layer name ls)) h

lose : (name : Text) (l : Layer) (ls : List Layer) → bytes_eq l.name name ≡ true → without_layer name (l ∷ ls) ≡ without_layer name ls
lose name l ls h = ap (λ b. cond (not b) (l ∷ without_layer name ls) (without_layer name ls)) h

keep_all : (name : Text) (ls : List Layer) → is_layer ls name ≡ false → without_layer name ls ≡ ls
keep_all name [] h = refl
keep_all name (l ∷ ls) h =
    keep name l ls (first_false (bytes_eq l.name name) (is_layer ls name) h) ∙ ap (λ ms. l ∷ ms) (keep_all name ls (second_false (bytes_eq l.name name) (is_layer ls name) h))

-- where no two layers have one name, the first of a name is all of it
module _ (name : Text) where
  step : (b : Bool) (l : Layer) (ls : List Layer) → bytes_eq l.name name ≡ b → is_layer ls l.name ≡ false → without name (map layer_of ls) ≡ map layer_of (without_layer name ls)
      → cond b (map layer_of ls) (layer_of l ∷ without name (map layer_of ls)) ≡ map layer_of (without_layer name (l ∷ ls))
  step true l ls is apart rest =
      ap (map layer_of) (sym (keep_all name ls (ap (is_layer ls) (sym ((bytes_eq-Decides l.name name).0 is)) ∙ apart)) ∙ sym (lose name l ls is))
  step false l ls is apart rest = ap (λ ms. layer_of l ∷ ms) rest ∙ ap (map layer_of) (sym (keep name l ls is))

  pub without_is : (ls : List Layer) → AreApart ls → without name (map layer_of ls) ≡ map layer_of (without_layer name ls)
  without_is [] apart = refl
  without_is (l ∷ ls) apart =
      ap (λ b. cond b (map layer_of ls) (layer_of l ∷ without name (map layer_of ls))) (bytes_eq-sym name l.name)
      ∙ step (bytes_eq l.name name) l ls refl apart.0 (without_is ls apart.1)

  still_none : (other : Text) (ls : List Layer) → is_layer ls other ≡ false → is_layer (without_layer name ls) other ≡ false
  still_none other [] h = refl
  still_none other (l ∷ ls) h = by_name (bytes_eq l.name name) refl (still_none other ls (second_false (bytes_eq l.name other) (is_layer ls other) h))
    where
      by_name : (b : Bool) → bytes_eq l.name name ≡ b → is_layer (without_layer name ls) other ≡ false → is_layer (without_layer name (l ∷ ls)) other ≡ false
      by_name true is rest = ap (λ ms. is_layer ms other) (lose name l ls is) ∙ rest
      by_name false is rest = ap (λ ms. is_layer ms other) (keep name l ls is) ∙ (λ i. first_false (bytes_eq l.name other) (is_layer ls other) h i || rest i)

  pub apart_without : (ls : List Layer) → AreApart ls → AreApart (without_layer name ls)
  apart_without [] apart = tt
  apart_without (l ∷ ls) apart = by_name (bytes_eq l.name name) refl (apart_without ls apart.1)
    where
      by_name : (b : Bool) → bytes_eq l.name name ≡ b → AreApart (without_layer name ls) → AreApart (without_layer name (l ∷ ls))
      by_name true is rest = subst AreApart (sym (lose name l ls is)) rest
      by_name false is rest = subst AreApart (sym (keep name l ls is)) (still_none l.name ls apart.0, rest)

-- ---- how many

pub as_many : (ls : List Layer) → length (map layer_of ls) ≡ length ls
as_many ls = length-map ls layer_of

-- fewer layers stand above one than there are
pub fewer_above : (name : Text) (ls : List layered.Layer) → length (above name ls) ≤ length ls
fewer_above name [] = omega arith
fewer_above name (l ∷ ls) = by_name (bytes_eq name l.0) (fewer_above name ls)
  where
    by_name : (b : Bool) → length (above name ls) ≤ length ls → length (cond b ls (above name ls)) ≤ suc (length ls)
    by_name true rest = omega arith
    by_name false rest = omega arith
