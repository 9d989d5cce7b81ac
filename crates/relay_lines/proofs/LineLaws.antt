-- The tokens of a line, member by member.
use Rattle.std.proofs.Common.{◌≡◌, ℕ, Bool, List, [], ◌∷◌, ◌++◌, Bor, codes, map, refl, sym, ap, ◌∙◌, append_assoc, append-nil, Result, IfOk}
use Rattle.std.proofs.lemmas.Result.{IfOk-weaker}
use Rattle.plan_ir.proofs.gql_plain_laws.Tokens.{print-tree_tokens}
use Rattle.plan_ir.specs.gql_plain.ToJson.{members_tokens}
use Rattle.plan_ir.specs.gql_plain.Tree.{Tree, truth, text, list, trees_of, members_of}
use Rattle.plan_ir.specs.gql_plain.declared.memory.NoMemory.{NoMemory}
use Rattle.json.specs.Print.{print}
use Rattle.json.specs.Token as token
use Rattle.json.specs.Token.{Token}
use Rattle.relay_lines.specs.Members.{member_tokens, ordered_line}
use Rattle.relay_machine.specs.Printed.{in_order, line, number, read_line}
use Rattle.plan_ir.specs.store_model.Walks.{Reading, shown_object}
use Rattle.plan_ir.specs.store_record.Keys.{Text}

-- the tokens of members
abbrev members_front : List (Text × Tree) → List Token
members_front [] = []
members_front (m ∷ ms) = member_tokens m.0 m.1 ++ members_front ms

-- what is written of an object are these members
pub record Holds (written : List Token) (members : List (Text × Tree)) : Type 0 where
  is : written ≡ token.begin_object ∷ members_front members

pub begun : {written : List Token} → written ≡ token.begin_object ∷ [] → Holds written []
begun start = record { is = start }

members_front-push : (ms : List (Text × Tree)) (key : Text) (value : Tree) → members_front ms ++ member_tokens key value ≡ members_front (ms ++ (key, value) ∷ [])
members_front-push [] key value = sym (append-nil (member_tokens key value))
members_front-push (m ∷ ms) key value = append_assoc (member_tokens m.0 m.1) (members_front ms) (member_tokens key value) ∙ ap (λ ts. member_tokens m.0 m.1 ++ ts) (members_front-push ms key value)

-- one more member
pub more : {old new : List Token} {ms : List (Text × Tree)} (key : Text) (value : Tree) → Holds old ms → new ≡ old ++ member_tokens key value → Holds new (ms ++ (key, value) ∷ [])
more {ms = ms} key value before next = record {
  is = next ∙ ap (λ ts. ts ++ member_tokens key value) before.is ∙ ap (λ ts. token.begin_object ∷ ts) (members_front-push ms key value);
}

members_front-end : (ms : List (Text × Tree)) → members_front ms ++ token.end_object ∷ [] ≡ members_tokens (members_of ms)
members_front-end [] = refl
members_front-end (m ∷ ms) = append_assoc (member_tokens m.0 m.1) (members_front ms) (token.end_object ∷ []) ∙ ap (λ ts. member_tokens m.0 m.1 ++ ts) (members_front-end ms)

-- the text of a whole object is the line of its members as they stand
pub ordered : (r : Result Text NoMemory) {written : List Token} {ms : List (Text × Tree)}
    → Holds written ms → IfOk r (λ words. words ≡ print (written ++ token.end_object ∷ []))
    → IfOk r (λ words. words ++ 10 ∷ [] ≡ ordered_line ms)
ordered r {written} {ms} whole said =
    IfOk-weaker r (λ words. words ≡ print (written ++ token.end_object ∷ [])) (λ words. words ++ 10 ∷ [] ≡ ordered_line ms)
    (λ words is.
    ap (λ (ts : Text). ts ++ 10 ∷ [])
    (is ∙ ap (λ ts. print (ts ++ token.end_object ∷ [])) whole.is ∙ ap (λ ts. print (token.begin_object ∷ ts)) (members_front-end ms) ∙ print-tree_tokens (shown_object ms)))
    said

-- it is the line of the members in another order, which gives that of their keys
pub printed : (members : List (Text × Tree)) (r : Result Text NoMemory) {written : List Token} {ms : List (Text × Tree)}
    → Holds written ms → ms ≡ in_order members → IfOk r (λ words. words ≡ print (written ++ token.end_object ∷ []))
    → IfOk r (λ words. words ++ 10 ∷ [] ≡ line members)
printed members r {ms = ms} whole order said =
    IfOk-weaker r (λ words. words ++ 10 ∷ [] ≡ ordered_line ms) (λ words. words ++ 10 ∷ [] ≡ line members)
    (λ words is. is ∙ ap ordered_line order)
    (ordered r whole said)

-- the trees of borrowed texts are those of the texts
borrowed_texts : (ids : List (Bor Text)) → map (λ (t : Bor Text). text t.now) ids ≡ map text (map (λ (t : Bor Text). t.now) ids)
borrowed_texts [] = refl
borrowed_texts (id ∷ ids) = ap (λ ts. text id.now ∷ ts) (borrowed_texts ids)

-- the line of what a read gives, whose ids are borrowed
pub read_shown : (r : Result Text NoMemory) (n : ℕ) (met : Reading) (ids : List (Bor Text)) {written : List Token} {missing : Bool}
    → missing ≡ met.missing → map (λ (t : Bor Text). t.now) ids ≡ met.seen
    → Holds written ((codes "data", met.value) ∷ (codes "missing", truth missing) ∷ (codes "n", number n) ∷ (codes "ok", text (codes "read")) ∷ (codes "seen", list (trees_of (map (λ (t : Bor Text). text t.now) ids))) ∷ [])
    → IfOk r (λ words. words ≡ print (written ++ token.end_object ∷ []))
    → IfOk r (λ words. words ++ 10 ∷ [] ≡ read_line n met)
read_shown r n met ids {missing = missing} same seen whole said =
    printed
    ((codes "data", met.value)
    ∷ (codes "missing", truth met.missing)
    ∷ (codes "n", number n)
    ∷ (codes "ok", text (codes "read"))
    ∷ (codes "seen", list (trees_of (map text met.seen))) ∷ [])
    r whole
    (ap (λ (b : Bool). (codes "data", met.value) ∷ (codes "missing", truth b) ∷ (codes "n", number n) ∷ (codes "ok", text (codes "read")) ∷ (codes "seen", list (trees_of (map (λ (t : Bor Text). text t.now) ids))) ∷ []) same
    ∙ ap (λ (ts : List Tree). (codes "data", met.value) ∷ (codes "missing", truth met.missing) ∷ (codes "n", number n) ∷ (codes "ok", text (codes "read")) ∷ (codes "seen", list (trees_of ts)) ∷ []) (borrowed_texts ids ∙ ap (λ (ts : List Text). map text ts) seen))
    said
