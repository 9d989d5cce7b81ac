-- The tokens at which nodes begin stand in the order of the nodes, and so do their places.
use Rattle.std.proofs.Common.{◌≡◌, ◌≤◌, ℕ, zero, suc, List, [], ◌∷◌, ◌++◌, map, length, replicate, IsCharBoundary, refl, sym, subst, inr, arith}
use Rattle.std.specs.Prelude.{IsUtf8}
use Rattle.place_order.specs.Rising.{IsNoLater}
use Rattle.place_order.proofs.LineSteps.{placed}
use Rattle.plan_ir.proofs.gql_lex_laws.Gaps.{describes}
use Rattle.plan_ir.proofs.store_model_laws.Least.{Each, each_append, each_so}
use Rattle.plan_ir.specs.gql_ast.declared.place.FilePlace.{FilePlace}
use Rattle.plan_ir.specs.gql_lex.Descriptions.{Describes}
use Rattle.plan_ir.specs.gql_lex.Sources.{Piece, Source, ended, faulty, token, lex_from}
use Rattle.plan_ir.specs.gql_syntax.Places.{file_place, place_nodes}
use Rattle.text_places.proofs.TokenPieces.{piece_places}
use Rattle.text_places.specs.Naming.{node_pieces}

-- each element, and those that come after it
abbrev pub InOrder : {X : Type 0} → (X → X → Type 0) → List X → Type 0
InOrder R [] = Unit {0}
InOrder R (x ∷ xs) = Each (R x) xs × InOrder R xs

pub order_append : {X : Type 0} (R : X → X → Type 0) (xs ys : List X) → InOrder R xs → InOrder R ys → Each (λ x. Each (R x) ys) xs → InOrder R (xs ++ ys)
order_append R [] ys a b c = b
order_append R (x ∷ xs) ys a b c = (each_append (R x) xs ys a.0 c.0, order_append R xs ys a.1 b c.1)

each_replicate : {X : Type 0} (P : X → Type 0) (n : ℕ) (x : X) → P x → Each P (replicate n x)
each_replicate P zero x h = tt
each_replicate P (suc n) x h = (h, each_replicate P n x h)

order_replicate : {X : Type 0} (R : X → X → Type 0) (n : ℕ) (x : X) → R x x → InOrder R (replicate n x)
order_replicate R zero x h = tt
order_replicate R (suc n) x h = (each_replicate (R x) n x h, order_replicate R n x h)

pub order_map : {X Y : Type 0} (R : X → X → Type 0) (S : Y → Y → Type 0) (P : X → Type 0) (f : X → Y) → ((x y : X) → P x → P y → R x y → S (f x) (f y)) → (xs : List X) → Each P xs → InOrder R xs
    → InOrder S (map f xs)
order_map R S P f so [] a h = tt
order_map {X = X} R S P f so (x ∷ xs) a h = (all xs a.1 h.0, order_map R S P f so xs a.1 h.1) where
  all : (ys : List X) → Each P ys → Each (R x) ys → Each (S (f x)) (map f ys)
  all [] b k = tt
  all (y ∷ ys) b k = (so x y a.0 b.0 k.0, all ys b.1 k.1)

-- a token of the text that begins no earlier than an offset
record Begins (text : List ℕ) (from : ℕ) (p : Piece) : Type 0 where
  behind : from ≤ p.start
  within : p.start ≤ length text
  boundary : IsCharBoundary text p.start

abbrev NoLater : Piece → Piece → Type 0
NoLater p q = p.start ≤ q.start

moved : (text : List ℕ) (from to : ℕ) → from ≤ to → (p : Piece) → Begins text to p → Begins text from p
moved text from to h p b = record { behind = omega (arith, h, b.behind); within = b.within; boundary = b.boundary }

all_begin : (text : List ℕ) (from : ℕ) (ns : List ℕ) (s : Source) → Describes text from s → Each (Begins text from) (node_pieces ns s)
all_begin text from [] s d = tt
all_begin text from (n ∷ ns) ended d = tt
all_begin text from (n ∷ ns) (faulty code at) d = tt
all_begin text from (n ∷ ns) (token p rest) d =
    each_append (Begins text from) (replicate n p) (node_pieces ns rest)
    (each_replicate (Begins text from) n p (record { behind = d.0.behind; within = omega (arith, d.0.some, d.0.within); boundary = d.0.start }))
    (each_so (Begins text p.end) (Begins text from) (node_pieces ns rest) (moved text from p.end (omega (arith, d.0.behind, d.0.some))) (all_begin text p.end ns rest d.1))

in_order : (text : List ℕ) (from : ℕ) (ns : List ℕ) (s : Source) → Describes text from s → InOrder NoLater (node_pieces ns s)
in_order text from [] s d = tt
in_order text from (n ∷ ns) ended d = tt
in_order text from (n ∷ ns) (faulty code at) d = tt
in_order text from (n ∷ ns) (token p rest) d =
    order_append NoLater (replicate n p) (node_pieces ns rest) (order_replicate NoLater n p (omega arith)) (in_order text p.end ns rest d.1)
    (each_replicate (λ q. Each (NoLater q) (node_pieces ns rest)) n p
    (each_so (Begins text p.end) (NoLater p) (node_pieces ns rest) (λ q b. omega (arith, d.0.some, b.behind)) (all_begin text p.end ns rest d.1)))

-- the places of a text's nodes
pub places_in_order : (file : ℕ) (text : List ℕ) → IsUtf8 text → (ns : List ℕ) → InOrder IsNoLater (place_nodes file text [] ns (lex_from 0 text))
places_in_order file text u ns =
    subst (InOrder IsNoLater) (sym (piece_places file text [] ns (lex_from 0 text)))
    (order_map NoLater IsNoLater (Begins text 0) (λ (p : Piece). file_place file text p.start)
    (λ p q a b h. inr (refl, placed text u p.start q.start (record { order = h; within = b.within; earlier = a.boundary })))
    (node_pieces ns (lex_from 0 text)) (all_begin text 0 ns (lex_from 0 text) (describes text u)) (in_order text 0 ns (lex_from 0 text) (describes text u)))

-- they stand in that file
pub places_of_file : (file : ℕ) (text : List ℕ) (ns : List ℕ) (s : Source) → Each (λ (p : FilePlace). p.file ≡ file) (place_nodes file text [] ns s)
places_of_file file text ns s =
    subst (Each (λ (p : FilePlace). p.file ≡ file)) (sym (piece_places file text [] ns s)) (all (node_pieces ns s)) where
      all : (ps : List Piece) → Each (λ (p : FilePlace). p.file ≡ file) (map (λ (p : Piece). file_place file text p.start) ps)
      all [] = tt
      all (p ∷ ps) = (refl, all ps)
