use Rattle.std.proofs.Common.{◌≡◌, ℕ, ◌+◌, List, ◌++◌, ◌∷◌, [], length, map, drop, get_or, true, false, ap, subst, sym, ◌∙◌, arith, length-drop, length-append}
use Rattle.mlb_reader.specs.Mlb.{is_blank}
use Rattle.mlb_reader.specs.MlbOf.{item_of, BeginsPath}
use Rattle.std.proofs.lemmas.List.{map-append, take_rest}
use Rattle.mlb_reader.proofs.MlbLemmas.{no-path, read-all, read-blank, read-path}
use Rattle.mlb_reader.proofs.mlb.read_mlb.Goals as goal

pub words-preserved-then-is_blank : goal.words-preserved-then-is_blank
words-preserved-then-is_blank c =
    let blank : is_blank (get_or c.args.bytes.now c.words.at 0) ≡ true = sym c.is_blank.ensures ∙ c.if-is_blank.true in
    record {
      read = read-blank c.args.bytes.now (map item_of c.words.items.items) c.words.at (omega arith) blank c.words.invariant.read;
      within = omega arith;
    }

pub returns-in_default-clause-no_mlb : goal.returns-in_default-clause-no_mlb
returns-in_default-clause-no_mlb c =
    let no_blank : is_blank (get_or c.args.bytes.now c.words.at 0) ≡ false = sym c.is_blank.ensures ∙ c.if-is_blank.false in
    no-path c.args.bytes.now (map item_of c.words.items.items) c.words.at (omega arith) no_blank c.words.invariant.read
    (subst (λ text. (word : List ℕ) → ¬ (BeginsPath text word)) (take_rest c.args.bytes.now c.words.at) c.in_default.ensures.none)

pub words-preserved : goal.words-preserved
words-preserved c =
    let bytes = c.args.bytes.now in
    let at = c.words.at in
    let word = c.in-Some.word.now in
    let no_blank : is_blank (get_or bytes at 0) ≡ false = sym c.is_blank.ensures ∙ c.if-is_blank.false in
    let begins : BeginsPath (drop at bytes) word = subst (λ text. BeginsPath text word) (take_rest bytes at) c.in-Some.ensures.found in
    let pushed : map item_of c.push.new.self.items ≡ map item_of c.words.items.items ++ record { byte = at; word = word } ∷ [] =
    ap (map item_of) c.in_ok-push.ensures.items ∙ map-append item_of c.words.items.items _ ∙ ap (λ w. map item_of c.words.items.items ++ record { byte = at; word = w } ∷ []) c.in_ok-from_slice.ensures.items in
    let stands : length (drop at bytes) ≡ length word + length begins.rest = ap length begins.stands ∙ length-append word begins.rest in
    record {
      read = read-path bytes (map item_of c.words.items.items) at (omega arith) no_blank c.words.invariant.read word begins (map item_of c.push.new.self.items) pushed;
      within = omega (arith, stands, length-drop at bytes);
    }

pub returns-clause-items : goal.returns-clause-items
returns-clause-items c = read-all c.args.bytes.now (map item_of c.words.items.items) c.words.at (omega arith) c.words.invariant.read
