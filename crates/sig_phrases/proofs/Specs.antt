-- Specifications and descriptions of structures, one after the other.
use Rattle.std.proofs.Common.{◌≡◌, ℕ, ◌<◌, ◌≤◌, List, [], ◌∷◌, ◌++◌, length, map, max, Option, Some, None, true, refl, sym, ap, ◌∙◌, subst, arith}
use Rattle.std.proofs.lemmas.List.{map_push}
use Rattle.mlc_names.specs.declared.token.Token.{Token}
use Rattle.mlc_names.specs.declared.token.Reserved.TheVariants as res
use Rattle.sml_tree.specs.Terminal.{Terminal}
use Rattle.sml_tree.specs.Bare.{at}
use Rattle.sml_tree.specs.ReadTree as core
use Rattle.sml_tree.specs.ReadTree.{Placed}
use Rattle.sml_grammar.specs.Answer.{Read, Answer, ok, bad, read, then_read, last, more}
use Rattle.sml_grammar.specs.Terminals.{Taken, first_as, after_word, on_some, then_taken, word_then, separated, no_state, place_at, tail}
use Rattle.module_tree.specs.BareModules as bare
use Rattle.module_tree.specs.ReadModules.{Specs, no_specs, spec, Spec, val_spec, type_spec, abbreviation_spec, eqtype_spec, datatype_spec, replication_spec, exception_spec, structure_spec, include_spec, include_ids, sharing_spec, StrDescs, last_desc, desc_and}
use Rattle.module_tree.specs.ModuleBare.{id_at, bare_sig, abbreviated, abbreviated_all, included_all, bare_specs, bare_spec, bare_str_descs}
use Rattle.module_tree.specs.ModuleDepth.{depth_spec, depth_specs, depth_str_descs}
use Rattle.module_code.specs.TreeOf.{DescOf, specs_onto, specs_of, descs_of, spec_of, desc_of}
use Rattle.module_code.specs.declared.signatures.Spec as code_spec
use Rattle.module_code.specs.declared.signatures.StrDesc as code_desc
use Rattle.module_grammar.specs.Signatures.{SigReader, as_module_id, spec_start, no_spec, is_spec_start, spec_by, spec_turn, specs_from, str_desc_turn, read_sig}
use Rattle.phrase_base.specs.declared.source.Source.{Source}
use Rattle.phrase_base.specs.declared.stop.Stop.{Stop}
use Rattle.phrase_base.specs.Gives.{Fails, Gave}
use Rattle.phrase_base.specs.Left.{left}
use Rattle.phrase_base.proofs.Loop.{fails-then, fails-by}
use Rattle.phrase_base.proofs.Lists.{then-then, word-less}
use Rattle.phrase_base.proofs.Shorter.{word-shorter}
use Rattle.spec_phrases.specs.FormsRead.{spec_list, IsSpec}
use Rattle.sig_phrases.specs.SigsRead.{OneDesc, bare_desc, depth_desc, read_str_desc, descs_list, specs_list, IsSpecs, starts}
use Rattle.sig_phrases.specs.declared.words.SpecWord.{SpecWord}
use Rattle.sig_phrases.specs.declared.words.SpecWord.TheVariants as word
use Rattle.sig_phrases.proofs.Running.{Running, run-start, run-skip, run-more, run-last, run-fails}
use Rattle.sig_phrases.proofs.Separated.{Separated, none}
use Rattle.sig_phrases.proofs.Starts.{start-shorter}

-- what lists stand for

abbreviations-onto : (f : ℕ) (bs : List core.TypeBind) (ss : bare.Specs) → specs_onto (map (abbreviated f) bs) ss ≡ abbreviated_all f bs ss
abbreviations-onto f [] ss = refl
abbreviations-onto f (b ∷ bs) ss = ap (bare.spec (abbreviated f b)) (abbreviations-onto f bs ss)

ids-onto : (f p : ℕ) (xs : List (Placed ℕ)) (ss : bare.Specs) → specs_onto (spec_list f (include_ids p xs)) ss ≡ included_all f p xs ss
ids-onto f p [] ss = refl
ids-onto f p (x ∷ xs) ss = ap (bare.spec (bare.include_spec (at f p) (bare.sig_id (id_at f x)))) (ids-onto f p xs ss)

spec-onto : (f : ℕ) (s : Spec) (ss : bare.Specs) → specs_onto (spec_list f s) ss ≡ bare_spec f s ss
spec-onto f (val_spec p vs) ss = refl
spec-onto f (type_spec p ts) ss = refl
spec-onto f (abbreviation_spec p bs) ss = abbreviations-onto f bs ss
spec-onto f (eqtype_spec p ts) ss = refl
spec-onto f (datatype_spec p ds) ss = refl
spec-onto f (replication_spec p x c) ss = refl
spec-onto f (exception_spec p cs) ss = refl
spec-onto f (structure_spec p ds) ss = refl
spec-onto f (include_spec p g) ss = refl
spec-onto f (include_ids p xs) ss = ids-onto f p xs ss
spec-onto f (sharing_spec p cs) ss = refl

pub specs_all : (f : ℕ) (ss : Specs) → specs_of (specs_list f ss) ≡ bare_specs f ss
specs_all f no_specs = refl
specs_all f (spec s ss) = ap (specs_onto (spec_list f s)) (specs_all f ss) ∙ spec-onto f s (bare_specs f ss)

pub descs_all : (f : ℕ) (ds : StrDescs) → descs_of (descs_list f ds) ≡ bare_str_descs f ds
descs_all f (last_desc x g) = refl
descs_all f (desc_and x g ds) = ap (bare.desc (id_at f x) (bare_sig f g)) (descs_all f ds)

-- descriptions of structures

abbrev put_desc : OneDesc → StrDescs → StrDescs
put_desc d ds = desc_and d.id d.sig ds

abbrev end_desc : OneDesc → StrDescs
end_desc d = last_desc d.id d.sig

pub desc-turns : (self : SigReader) (i : List Terminal) → str_desc_turn self no_state i ≡ then_read (read_str_desc self i) (λ d o. separated (after_word res.And o) (put_desc d) (end_desc d) no_state o)
desc-turns self i = go (first_as as_module_id i)
  where
    typed : (x : Placed ℕ) (v : Option (List Terminal)) →
        on_some v (λ k. then_read (self k) (λ g o. separated (after_word res.And o) (desc_and x g) (last_desc x g) no_state o)) bad ≡
        then_read (on_some v (λ k. then_read (self k) (λ g o. read (record { id = x; sig = g }) o)) bad) (λ d o. separated (after_word res.And o) (put_desc d) (end_desc d) no_state o)
    typed x (Some k) = then-then (self k) (λ g. record { id = x; sig = g }) (λ d o. separated (after_word res.And o) (put_desc d) (end_desc d) no_state o)
    typed x None = refl

    go : (x : Option (Taken (Placed ℕ))) →
        then_taken x (λ y m. word_then res.Colon (λ k. then_read (self k) (λ g o. separated (after_word res.And o) (desc_and y g) (last_desc y g) no_state o)) m) ≡
        then_read (then_taken x (λ y m. word_then res.Colon (λ k. then_read (self k) (λ g o. read (record { id = y; sig = g }) o)) m)) (λ d o. separated (after_word res.And o) (put_desc d) (end_desc d) no_state o)
    go (Some x) = typed x.it (after_word res.Colon x.rest)
    go None = refl

abbrev pub descs-form : ℕ → ℕ → Separated code_desc.StrDesc OneDesc StrDescs DescOf
descs-form f n = record {
  step = str_desc_turn (read_sig n);
  one = read_str_desc (read_sig n);
  sep = after_word res.And;
  put = put_desc;
  end_ = end_desc;
  of = desc_of;
  view = bare_desc f;
  views = descs_list f;
  dep = depth_desc;
  deps = depth_str_descs;
  less = word-less res.And;
  turn = desc-turns (read_sig n);
  shows = λ a b. refl;
  shows_end = λ a. refl;
  deeper = λ a b. refl;
  deeper_end = λ a. refl;
}

-- specifications

abbrev pub SpecsGoing : Source → ℕ → List Terminal → List code_spec.Spec → ℕ → Answer Specs → Type 0
SpecsGoing s n i xs d total = Running (spec_turn n (read_sig n)) none (specs_list s.file) depth_specs n no_state no_state i (map spec_of xs) d total

word-starts : (n : ℕ) (w : SpecWord) (p : ℕ) (o : List Terminal) → is_spec_start (starts w p o) ≡ true
word-starts n word.Val p o = refl
word-starts n word.Type p o = refl
word-starts n word.Eqtype p o = refl
word-starts n word.Datatype p o = refl
word-starts n word.Exception p o = refl
word-starts n word.Structure p o = refl
word-starts n word.Include p o = refl
word-starts n word.Sharing p o = refl

module _ (s : Source) (n : ℕ) where
  pub specs-start : (i : List Terminal) (xs : List code_spec.Spec) → xs ≡ [] → SpecsGoing s n i xs 0 (specs_from n (read_sig n) i)
  specs-start i xs e = run-start (spec_turn n (read_sig n)) none (specs_list s.file) depth_specs n no_state i (map spec_of xs) (ap (map spec_of) e)

  module _ (i : List Terminal) (xs : List code_spec.Spec) (d : ℕ) (total : Answer Specs) (g : SpecsGoing s n i xs d total) where
    pub specs-pass : (m : List Terminal) → after_word res.Semicolon i ≡ Some m → SpecsGoing s n m xs d total
    specs-pass m h =
        let one : spec_turn n (read_sig n) no_state i ≡ read (more (λ ss. ss) no_state) m = rw h refl in
        run-skip (spec_turn n (read_sig n)) none (specs_list s.file) depth_specs n no_state g no_state m one (word-shorter res.Semicolon i m h) (λ b. refl)

    pub specs-end : (j : List Terminal) (o : List Token) → i ≡ left s o → after_word res.Semicolon i ≡ None → spec_start i ≡ no_spec → length i ≤ length j → Gave (λ (ys : List code_spec.Spec) r. IsSpecs s n j ys d o r) xs total
    specs-end j o e h st le =
        let one : spec_turn n (read_sig n) no_state i ≡ read (last no_specs) i = rw (h, st) refl in
        let l = run-last (spec_turn n (read_sig n)) none (specs_list s.file) depth_specs n no_state g i no_specs [] 0 (map spec_of xs) d one refl refl (omega arith) (sym (append-none (map spec_of xs))) (omega arith) in
        record { got = record { tree = l.tree; rest = i }; is = l.is; same = record { rest = sym e; same = l.shows; depth = l.deep; fits = l.fits; shorter = le } }
      where
        append-none : (ys : List (List bare.Spec)) → ys ++ [] ≡ ys
        append-none [] = refl
        append-none (y ∷ ys) = ap (λ (z : List (List bare.Spec)). y ∷ z) (append-none ys)

    module _ (w : SpecWord) (h : after_word res.Semicolon i ≡ None) (st : spec_start i ≡ starts w (place_at i) (tail i)) where
      turn : spec_turn n (read_sig n) no_state i ≡ then_read (spec_by n (read_sig n) (starts w (place_at i) (tail i))) (λ x o. read (more (spec x) no_state) o)
      turn = let b : is_spec_start (starts w (place_at i) (tail i)) ≡ true = word-starts n w (place_at i) (tail i) in rw (h, st, b) refl

      pub specs-fail : (e : Stop) → Fails e (spec_by n (read_sig n) (starts w (place_at i) (tail i))) → Fails e total
      specs-fail e f =
          run-fails (spec_turn n (read_sig n)) none (specs_list s.file) depth_specs n no_state g e
          (fails-by e (spec_turn n (read_sig n) no_state i) _ turn (fails-then e (spec_by n (read_sig n) (starts w (place_at i) (tail i))) _ f))

      pub specs-more : (k : List Terminal) (x : code_spec.Spec) (e : ℕ) (o : List Token) (got : Read Spec) (xs2 : List code_spec.Spec) (d2 : ℕ) → k ≡ tail i → spec_by n (read_sig n) (starts w (place_at i) k) ≡ ok got → IsSpec s n k x e o got →
          xs2 ≡ xs ++ x ∷ [] → d2 ≡ max e d → SpecsGoing s n (left s o) xs2 d2 total × (length (left s o) < length i)
      specs-more k x e o got xs2 d2 q by is p deeper =
          let by2 : spec_by n (read_sig n) (starts w (place_at i) (tail i)) ≡ ok got = subst (λ (z : List Terminal). spec_by n (read_sig n) (starts w (place_at i) z) ≡ ok got) q by in
          let one : spec_turn n (read_sig n) no_state i ≡ read (more (spec got.tree) no_state) got.rest = turn ∙ rw by2 refl in
          let l1 = start-shorter i w st in let l2 = is.shorter in let l3 = ap (λ (z : List Terminal). length z) q in let l4 = ap (λ (z : List Terminal). length z) is.rest in
          let lt : length got.rest < length i = omega arith in
          let deep = is.depth in
          let longer : map spec_of xs2 ≡ map spec_of xs ++ spec_list s.file got.tree ∷ [] = ap (map spec_of) p ∙ map_push spec_of xs x ∙ ap (λ (z : List bare.Spec). map spec_of xs ++ z ∷ []) is.same in
          let go = run-more (spec_turn n (read_sig n)) none (specs_list s.file) depth_specs n no_state g no_state got.rest (spec got.tree) (spec_list s.file got.tree ∷ []) (depth_spec got.tree) (map spec_of xs2) d2 one lt (λ b. refl) (λ b. refl) (λ b. refl) is.fits longer (omega arith) in
          (subst (λ (z : List Terminal). SpecsGoing s n z xs2 d2 total) (sym is.rest) go, omega arith)
