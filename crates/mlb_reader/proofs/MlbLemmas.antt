-- Reading an ML Basis file word by word.
use Rattle.std.proofs.Common.{◌≡◌, ℕ, suc, ◌+◌, ◌<◌, ◌≤◌, Bool, true, false, not, ◌&&◌, List, [], ◌∷◌, ◌++◌, length, take, drop, get_or, refl, ap, subst, sym, ◌∙◌, arith, cond, append-nil, append_assoc, length-append}
use Rattle.std.specs.List.{All, list_all, prefix_len}
use Rattle.std.proofs.lemmas.Bool.Decides.{nat_tests}
use Rattle.std.proofs.lemmas.List.Elements.{All-cons, All-nil}
use Rattle.std.proofs.lemmas.List.Recursion.{and_at}
use Rattle.std.proofs.lemmas.List.{take-append-drop, drop-drop, drop_more, drop_all}
use Rattle.std.proofs.Math.Seq.{take-append_seam, drop-append_seam}
use Rattle.mlb_reader.specs.Mlb.{Item, IsMlb, IsPath, Reads, no_more, a_blank, a_path, is_blank, is_path_byte, is_parted}
use Rattle.mlb_reader.specs.MlbOf.{BeginsPath, IsNoMlb, IsWord}
use Rattle.mlb_reader.specs.Reading.{is_no_blank}

-- Bytes of words.

path_byte_no_blank : (b : ℕ) → is_path_byte b ≡ true → is_no_blank b ≡ true
path_byte_no_blank b h = grind (arith, nat_tests)

both-true : (p q : Bool) → (p && q) ≡ true → (p ≡ true) × (q ≡ true)
both-true true q h = (refl, h)
both-true false q h = absurd (let k : false ≡ true = h in cc)

pub path-head : (word rest : List ℕ) (b : ℕ) (i : List ℕ) → IsPath word → word ++ rest ≡ b ∷ i → is_no_blank b ≡ true
path-head [] rest b i p e = absurd (p.some refl)
path-head (c ∷ word) rest b i p e =
    let same : c ≡ b = cc in
    path_byte_no_blank b (subst (λ x. is_path_byte x ≡ true) same (both-true (is_path_byte c) (list_all is_path_byte word) p.bare).0)

-- a word that ends where white space stands is the longest without white space
front-of-rest : (rest : List ℕ) → is_parted rest ≡ true → prefix_len is_no_blank rest ≡ 0
front-of-rest [] h = refl
front-of-rest (b ∷ rest) h = ap (λ t. cond (not t) (1 + prefix_len is_no_blank rest) 0) h

front-of-word : (word rest : List ℕ) → list_all is_path_byte word ≡ true → is_parted rest ≡ true → prefix_len is_no_blank (word ++ rest) ≡ length word
front-of-word [] rest h e = front-of-rest rest e
front-of-word (b ∷ word) rest h e =
    let both = both-true (is_path_byte b) (list_all is_path_byte word) h in
    let shorter = front-of-word word rest both.1 e in
    let first : prefix_len is_no_blank (b ∷ word ++ rest) ≡ 1 + prefix_len is_no_blank (word ++ rest) = ap (λ t. cond t (1 + prefix_len is_no_blank (word ++ rest)) 0) (path_byte_no_blank b both.0) in
    omega (arith, first, shorter)

pub begins-is-front : (text word : List ℕ) (h : BeginsPath text word) → word ≡ take (prefix_len is_no_blank text) text
begins-is-front text word h =
    let len : prefix_len is_no_blank text ≡ length word = ap (prefix_len is_no_blank) h.stands ∙ front-of-word word h.rest h.is.bare h.parted in
    sym (ap (λ n. take n text) len ∙ ap (take (length word)) h.stands ∙ take-append_seam word h.rest)

-- what stands behind the longest front without white space
rest-parted : (text : List ℕ) → is_parted (drop (prefix_len is_no_blank text) text) ≡ true
rest-parted [] = refl
rest-parted (b ∷ text) = go (is_blank b) refl (rest-parted text)
  where
    go : (t : Bool) → is_blank b ≡ t → is_parted (drop (prefix_len is_no_blank text) text) ≡ true → is_parted (drop (cond (not t) (1 + prefix_len is_no_blank text) 0) (b ∷ text)) ≡ true
    go true e h = e
    go false e h =
        let one : 1 + prefix_len is_no_blank text ≡ suc (prefix_len is_no_blank text) = omega arith in
        subst (λ n. is_parted (drop n (b ∷ text)) ≡ true) (sym one) h

pub front-begins : (text word : List ℕ) → word ≡ take (prefix_len is_no_blank text) text → IsPath word → BeginsPath text word
front-begins text word e p = record {
  rest = drop (prefix_len is_no_blank text) text;
  stands = sym (take-append-drop (prefix_len is_no_blank text) text) ∙ ap (λ w. w ++ drop (prefix_len is_no_blank text) text) (sym e);
  is = p;
  parted = rest-parted text;
}

-- One step of reading, backwards.

pub after-blank : (at b : ℕ) (i text : List ℕ) (items : List Item) → Reads at text items → text ≡ b ∷ i → is_blank b ≡ true → Reads (at + 1) i items
after-blank at b i text items (no_more n) e h = absurd (let k : [] ≡ b ∷ i = e in cc)
after-blank at b i text items (a_blank n c {i = j} k r) e h = let same : j ≡ i = cc in subst (λ t. Reads (at + 1) t items) same r
after-blank at b i text items (a_path n word {i = j} {items = js} p q r) e h =
    let t : is_no_blank b ≡ true = path-head word j b i p e in
    let u : is_no_blank b ≡ false = ap not h in
    absurd (cc)

record ReadsPath (at : ℕ) (text : List ℕ) : Type 0 where
  word : List ℕ
  begins : BeginsPath text word
  later : List Item
  reads : Reads (at + length word) begins.rest later

from-path : (at b : ℕ) (i text : List ℕ) (items : List Item) → Reads at text items → text ≡ b ∷ i → is_blank b ≡ false → ReadsPath at text
from-path at b i text items (no_more n) e h = absurd (let k : [] ≡ b ∷ i = e in cc)
from-path at b i text items (a_blank n c {i = j} k r) e h = let same : c ≡ b = cc in absurd (let t : is_blank b ≡ true = subst (λ x. is_blank x ≡ true) same k in cc)
from-path at b i text items (a_path n word {i = j} {items = js} p q r) e h = record { word = word; begins = record { rest = j; stands = refl; is = p; parted = q }; later = js; reads = r }

-- What was read before a byte of the file: these items, whatever comes later, where anything does.

pub record ReadTo (bytes : List ℕ) (items : List Item) (at : ℕ) : Type 0 where
  pub on : (later : List Item) → Reads at (drop at bytes) later → Reads 0 bytes (items ++ later)
  pub only : (all : List Item) → Reads 0 bytes all → (later : List Item) × Reads at (drop at bytes) later

pub read-blank : (bytes : List ℕ) (items : List Item) (at : ℕ) → at < length bytes → is_blank (get_or bytes at 0) ≡ true → ReadTo bytes items at → ReadTo bytes items (at + 1)
read-blank bytes items at h blank to =
    let here : drop at bytes ≡ get_or bytes at 0 ∷ drop (at + 1) bytes = drop_more bytes at 0 h in
    record {
      on = λ later r. to.on later (subst (λ t. Reads at t later) (sym here) (a_blank at (get_or bytes at 0) blank r));
      only = λ all r. let before = to.only all r in (before.0, after-blank at (get_or bytes at 0) (drop (at + 1) bytes) (drop at bytes) before.0 before.1 here blank);
    }

module _ (bytes : List ℕ) (items : List Item) (at : ℕ) (within : at < length bytes) (no_blank : is_blank (get_or bytes at 0) ≡ false) (to : ReadTo bytes items at) where
  here : drop at bytes ≡ get_or bytes at 0 ∷ drop (at + 1) bytes
  here = drop_more bytes at 0 within

  path-there : (all : List Item) → Reads 0 bytes all → ReadsPath at (drop at bytes)
  path-there all r = let before = to.only all r in from-path at (get_or bytes at 0) (drop (at + 1) bytes) (drop at bytes) before.0 before.1 here no_blank

  -- no path stands here
  pub no-path : ((word : List ℕ) → ¬ (BeginsPath (drop at bytes) word)) → IsNoMlb bytes
  no-path none all r = let there = path-there all r in none there.word there.begins

  module _ (word : List ℕ) (begins : BeginsPath (drop at bytes) word) where
    rest-is : begins.rest ≡ drop (at + length word) bytes
    rest-is = sym (drop-append_seam word begins.rest) ∙ ap (drop (length word)) (sym begins.stands) ∙ drop-drop (length word) at bytes

    same-rest : (other : List ℕ) (h : BeginsPath (drop at bytes) other) → other ≡ word → h.rest ≡ begins.rest
    same-rest other h e = sym (drop-append_seam other h.rest) ∙ ap (drop (length other)) (sym h.stands ∙ begins.stands) ∙ ap (λ n. drop n (word ++ begins.rest)) (ap length e) ∙ drop-append_seam word begins.rest

    on-path : (later : List Item) → Reads (at + length word) (drop (at + length word) bytes) later → Reads at (drop at bytes) (record { byte = at; word = word } ∷ later)
    on-path later r = subst (λ t. Reads at t (record { byte = at; word = word } ∷ later)) (sym begins.stands) (a_path at word begins.is begins.parted (subst (λ t. Reads (at + length word) t later) (sym rest-is) r))

    only-path : (all : List Item) → Reads 0 bytes all → (later : List Item) × Reads (at + length word) (drop (at + length word) bytes) later
    only-path all r =
        let there = path-there all r in
        let same : there.word ≡ word = begins-is-front (drop at bytes) there.word there.begins ∙ sym (begins-is-front (drop at bytes) word begins) in
        let rest : there.begins.rest ≡ drop (at + length word) bytes = same-rest there.word there.begins same ∙ rest-is in
        (there.later, subst (λ t. Reads (at + length word) t there.later) rest (subst (λ n. Reads n there.begins.rest there.later) (ap (λ w. at + length w) same) there.reads))

    -- a path stands here
    pub read-path : (items' : List Item) → items' ≡ items ++ record { byte = at; word = word } ∷ [] → ReadTo bytes items' (at + length word)
    read-path items' e = record {
      on = λ later r. subst (λ x. Reads 0 bytes x) (sym (append_assoc items (record { byte = at; word = word } ∷ []) later) ∙ ap (λ x. x ++ later) (sym e)) (to.on (record { byte = at; word = word } ∷ later) (on-path later r));
      only = only-path;
    }

pub read-all : (bytes : List ℕ) (items : List Item) (at : ℕ) → length bytes ≤ at → ReadTo bytes items at → IsMlb bytes items
read-all bytes items at h to = subst (λ x. Reads 0 bytes x) (append-nil items) (to.on [] (subst (λ t. Reads at t []) (sym (drop_all at bytes h)) (no_more at)))

-- Words of an ML Basis file.

path-byte-ascii : (b : ℕ) → is_path_byte b ≡ true → b < 128
path-byte-ascii b h = grind (arith, nat_tests)

word-ascii : (word : List ℕ) → list_all is_path_byte word ≡ true → All (λ b. b < 128) word
word-ascii word h k d l = path-byte-ascii (get_or word k d) (and_at (list_all is_path_byte) is_path_byte refl (λ _ _. refl) word k d l h)

-- the words are ASCII, and stand in the file
pub reads-words : (size at : ℕ) (text : List ℕ) (items : List Item) → Reads at text items → at + length text ≡ size → All (IsWord size) items
reads-words size at text items (no_more n) e = All-nil (IsWord size)
reads-words size at text items (a_blank n b {i = i} {items = later} h r) e = reads-words size (at + 1) i items r (omega (arith, e))
reads-words size at text items (a_path n word {i = i} {items = later} p q r) e =
    let sum : length text ≡ length word + length i = length-append word i in
    All-cons (IsWord size) (record { byte = at; word = word }) later (record { ascii = word-ascii word p.bare; inside = omega (arith, e, sum) }) (reads-words size (at + length word) i later r (omega (arith, e, sum)))
