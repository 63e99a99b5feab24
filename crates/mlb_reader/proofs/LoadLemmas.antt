-- Loading, path by path.
use Rattle.std.proofs.Common.{◌≡◌, ◌≢◌, ℕ, ◌+◌, ◌<◌, ◌≤◌, Bool, true, false, List, [], ◌∷◌, ◌++◌, length, map, take, drop, get_or, All, Option, Some, None, nat_lt, if◌then◌else◌, refl, ap, subst, sym, ◌∙◌, arith}
use Rattle.std.specs.FinMap.{get}
use Rattle.std.proofs.lemmas.Bool.{ltb-true, ltb-false}
use Rattle.std.proofs.lemmas.List.{take_more, take_all, take-append-drop, drop_more, get_or-map}
use Rattle.mlc_faults.specs.File.{File}
use Rattle.mlc_faults.specs.Files.{LiesIn}
use Rattle.mlc_faults.specs.declared.code.Code.TheVariants.{FilesTooLarge, MlbSyntax, PathVariable, Extension, TooManyFiles}
use Rattle.mlc_faults.specs.declared.fault.Fault.{Fault}
use Rattle.mlc_outside.specs.Files.{Files}
use Rattle.mlc_outside.specs.Store.{HasFile}
use Rattle.mlc_names.specs.StandardWords.{standard_words}
use Rattle.sml_tree.specs.Fixity.{Fixity}
use Rattle.mlb_reader.specs.Parts.{Part}
use Rattle.mlb_reader.specs.Broken.{IsBad, IsBroken, IsMissing, fault_at, large_mlb, no_mlb, variable, extension, too_many, too_large, bad_source}
use Rattle.mlb_reader.specs.Loading.{BreaksAt, BreaksFirst, IsBegun, IsFetched, IsTooLarge, MissesAt, NeedsAt, path_fault}
use Rattle.mlb_reader.specs.Mlb.{Item, basis_path, has_variable, is_source}
use Rattle.mlb_reader.specs.MlbOf.{IsNoMlb, IsWord, item_of}
use Rattle.mlb_reader.specs.Path.{clean, path_from}
use Rattle.mlb_reader.specs.Project.{ComesTo, Fits, HasMlb, IsNeeded, IsRead, IsSource, Loaded, Loads, MayRead, ProjectOf, a_source, begun, most_reads, no_item, of_source, the_basis, the_mlb, with_basis, with_source}
use Rattle.mlb_reader.specs.Refusals.{IfTold}
use Rattle.mlb_reader.specs.declared.mlb.Item as code
use Rattle.mlb_reader.specs.declared.counts.Counts.{Counts}
use Rattle.mlb_reader.proofs.FileLemmas.{lies-last}
use Rattle.mlb_reader.proofs.MlbLemmas.{reads-words}

-- The paths of the ML Basis file, one after the other.

pub loads-append : (files : Files) (mlb : List ℕ) (s m e : Loaded) (xs ys : List Item) → Loads files mlb s xs m → Loads files mlb m ys e → Loads files mlb s (xs ++ ys) e
loads-append files mlb s m e xs ys (no_item t) k = k
loads-append files mlb s m e xs ys (the_basis {item = item} {items = items} is h) k = the_basis is (loads-append files mlb (with_basis s) m e items ys h k)
loads-append files mlb s m e xs ys (a_source {item = item} {items = items} file {part = part} {names = names} {f = f} r is h) k =
    a_source file r is (loads-append files mlb (with_source file part names f s) m e items ys h k)

-- One path.

module _ (mlb : List ℕ) (s : Loaded) (item : Item) where
  pub basis-loaded : (files : Option Files) (e : Loaded) → item.word ≡ basis_path → e ≡ with_basis s → IfTold files (λ f. Loads f mlb s (item ∷ []) e)
  basis-loaded None e is same = tt
  basis-loaded (Some f) e is same = subst (λ m. Loads f mlb s (item ∷ []) m) (sym same) (the_basis is (no_item (with_basis s)))

  module _ (may : MayRead s item) where
    pub missing-at : (files : Option Files) (missing : List ℕ) → missing ≡ path_from mlb item.word → HasFile files (path_from mlb item.word) None → MissesAt files mlb s item missing
    missing-at None missing e has = tt
    missing-at (Some f) missing e has = λ input same to.
        let is : path_from (clean input) item.word ≡ missing = ap (λ m. path_from m item.word) same ∙ sym e in
        record { is_needed = subst (IsNeeded f input) is (of_source to may); has_no_file = ap (get f) e ∙ has }

    pub needed-at : (files : Option Files) (failed : List ℕ) → failed ≡ path_from mlb item.word → NeedsAt files mlb s item failed
    needed-at None failed e = tt
    needed-at (Some f) failed e = λ input same to.
        let is : path_from (clean input) item.word ≡ failed = ap (λ m. path_from m item.word) same ∙ sym e in
        subst (IsNeeded f input) is (of_source to may)

    pub too-large-at : (files : Option Files) (fault : Fault) (new : List File) → IsTooLarge files (path_from mlb item.word) item.byte fault s.reads new → BreaksAt files mlb s item fault new
    too-large-at None fault new h = tt
    too-large-at (Some f) fault new h = λ input same to.
        let path_is : h.file.path ≡ path_from (clean input) item.word = h.path_is ∙ ap (λ m. path_from m item.word) (sym same) in
        let has : get f h.file.path ≡ Some h.file.bytes = ap (get f) h.path_is ∙ h.has in
        subst (λ r. IsBroken f input fault r) (sym h.added) (subst (λ x. IsBroken f input x (s.reads ++ h.file ∷ [])) (sym h.fault_is) (too_large h.file to may path_is has h.no_fit))

    module _ (number : ℕ) (counts : Counts) (new : List File) where
      is-read : (f : Files) (at : List ℕ) → at ≡ mlb → (h : IsFetched (Some f) (path_from mlb item.word) number counts s.reads new) → IsRead f at s item h.file
      is-read f at same h = record {
        may = may;
        path = h.path_is ∙ ap (λ m. path_from m item.word) (sym same);
        has = ap (get f) h.path_is ∙ h.has;
        fits = h.fits;
      }

      pub source-loaded : (files : Option Files) (h : IsFetched files (path_from mlb item.word) number counts s.reads new) (bytes : List ℕ) (part : Part) (names : List (List ℕ)) (f' : Fixity) (e : Loaded) → bytes ≡ h.file.bytes → IsSource s.names number s.fixities bytes part names f' → e ≡ record { names = names; fixities = f'; parts = s.parts ++ part ∷ []; reads = new } → IfTold files (λ f. Loads f mlb s (item ∷ []) e)
      source-loaded None h bytes part names f' e are is same = tt
      source-loaded (Some f) h bytes part names f' e are is same =
          let there : IsSource s.names (length s.reads) s.fixities h.file.bytes part names f' = subst (λ b. IsSource s.names (length s.reads) s.fixities b part names f') are (subst (λ n. IsSource s.names n s.fixities bytes part names f') h.number_is is) in
          let last : with_source h.file part names f' s ≡ e = ap (λ r. record { names = names; fixities = f'; parts = s.parts ++ part ∷ []; reads = r }) (sym h.added) ∙ sym same in
          subst (λ m. Loads f mlb s (item ∷ []) m) last (a_source h.file (is-read f mlb refl h) there (no_item (with_source h.file part names f' s)))

      pub bad-at : (files : Option Files) (h : IsFetched files (path_from mlb item.word) number counts s.reads new) (bytes : List ℕ) (fault : Fault) → bytes ≡ h.file.bytes → IsBad s.names number s.fixities bytes fault → BreaksAt files mlb s item fault new
      bad-at None h bytes fault are bad = tt
      bad-at (Some f) h bytes fault are bad = λ input same to.
          let there : IsBad s.names (length s.reads) s.fixities h.file.bytes fault = subst (λ b. IsBad s.names (length s.reads) s.fixities b fault) are (subst (λ n. IsBad s.names n s.fixities bytes fault) h.number_is bad) in
          subst (λ r. IsBroken f input fault r) (sym h.added) (bad_source to h.file (is-read f (clean input) same h) there)

  -- Paths that aren't read.

  pub variable-at : (files : Option Files) → item.word ≢ basis_path → has_variable item.word ≡ true → BreaksAt files mlb s item (fault_at PathVariable 0 item.byte) s.reads
  variable-at None other h = tt
  variable-at (Some f) other h = λ input same to. variable to other h

  pub extension-at : (files : Option Files) → has_variable item.word ≡ false → is_source item.word ≡ false → BreaksAt files mlb s item (fault_at Extension 0 item.byte) s.reads
  extension-at None h k = tt
  extension-at (Some f) h k = λ input same to. extension to h k

  pub too-many-at : (files : Option Files) → has_variable item.word ≡ false → is_source item.word ≡ true → most_reads ≤ length s.reads → BreaksAt files mlb s item (fault_at TooManyFiles 0 item.byte) s.reads
  too-many-at None h k l = tt
  too-many-at (Some f) h k l = λ input same to. too_many to h k l

  path-breaks-at : (files : Option Files) (fault : Fault) (reads : ℕ) (p q r : Bool) → reads ≡ length s.reads → item.word ≢ basis_path → has_variable item.word ≡ p → is_source item.word ≡ q → nat_lt reads most_reads ≡ r →
      (if p then Some (fault_at PathVariable 0 item.byte) else (if q then (if r then None else Some (fault_at TooManyFiles 0 item.byte)) else Some (fault_at Extension 0 item.byte))) ≡ Some fault → BreaksAt files mlb s item fault s.reads
  path-breaks-at files fault reads true q r n other h k l e =
      let same : fault_at PathVariable 0 item.byte ≡ fault = cc in subst (λ x. BreaksAt files mlb s item x s.reads) same (variable-at files other h)
  path-breaks-at files fault reads false false r n other h k l e =
      let same : fault_at Extension 0 item.byte ≡ fault = cc in subst (λ x. BreaksAt files mlb s item x s.reads) same (extension-at files h k)
  path-breaks-at files fault reads false true true n other h k l e = absurd (let no : None ≡ Some fault = e in cc)
  path-breaks-at files fault reads false true false n other h k l e =
      let same : fault_at TooManyFiles 0 item.byte ≡ fault = cc in
      let many : most_reads ≤ reads = ltb-false reads most_reads l in
      subst (λ x. BreaksAt files mlb s item x s.reads) same (too-many-at files h k (omega (arith, many, n)))

  pub path-breaks : (files : Option Files) (fault : Fault) (reads : ℕ) → reads ≡ length s.reads → item.word ≢ basis_path → path_fault item reads ≡ Some fault → BreaksAt files mlb s item fault s.reads
  path-breaks files fault reads n other e = path-breaks-at files fault reads (has_variable item.word) (is_source item.word) (nat_lt reads most_reads) n other refl refl refl e

may-read-at : (s : Loaded) (item : Item) (reads : ℕ) (p q r : Bool) → reads ≡ length s.reads → has_variable item.word ≡ p → is_source item.word ≡ q → nat_lt reads most_reads ≡ r →
    (if p then Some (fault_at PathVariable 0 item.byte) else (if q then (if r then None else Some (fault_at TooManyFiles 0 item.byte)) else Some (fault_at Extension 0 item.byte))) ≡ None → MayRead s item
may-read-at s item reads true q r n h k l e = absurd (let no : Some (fault_at PathVariable 0 item.byte) ≡ None = e in cc)
may-read-at s item reads false false r n h k l e = absurd (let no : Some (fault_at Extension 0 item.byte) ≡ None = e in cc)
may-read-at s item reads false true false n h k l e = absurd (let no : Some (fault_at TooManyFiles 0 item.byte) ≡ None = e in cc)
may-read-at s item reads false true true n h k l e = let few : reads < most_reads = ltb-true reads most_reads l in record { no_variable = h; extension = k; room = omega (arith, few, n) }

pub may-read : (s : Loaded) (item : Item) (reads : ℕ) → reads ≡ length s.reads → path_fault item reads ≡ None → MayRead s item
may-read s item reads n e = may-read-at s item reads (has_variable item.word) (is_source item.word) (nat_lt reads most_reads) n refl refl refl e

pub record AtByte (item : Item) (fault : Fault) : Type 0 where
  pub file : fault.place.file ≡ 0
  pub byte : fault.place.byte ≡ item.byte
  pub unnamed : fault.name ≡ None

path-place-at : (item : Item) (fault : Fault) (p q r : Bool) →
    (if p then Some (fault_at PathVariable 0 item.byte) else (if q then (if r then None else Some (fault_at TooManyFiles 0 item.byte)) else Some (fault_at Extension 0 item.byte))) ≡ Some fault → AtByte item fault
path-place-at item fault true q r e = let same : fault_at PathVariable 0 item.byte ≡ fault = cc in subst (AtByte item) same (record { file = refl; byte = refl; unnamed = refl })
path-place-at item fault false false r e = let same : fault_at Extension 0 item.byte ≡ fault = cc in subst (AtByte item) same (record { file = refl; byte = refl; unnamed = refl })
path-place-at item fault false true true e = absurd (let no : None ≡ Some fault = e in cc)
path-place-at item fault false true false e = let same : fault_at TooManyFiles 0 item.byte ≡ fault = cc in subst (AtByte item) same (record { file = refl; byte = refl; unnamed = refl })

pub path-place : (item : Item) (fault : Fault) (reads : ℕ) → path_fault item reads ≡ Some fault → AtByte item fault
path-place item fault reads e = path-place-at item fault (has_variable item.word) (is_source item.word) (nat_lt reads most_reads) e

-- The ML Basis file.

module _ (mlb : List ℕ) (reads : List File) (none : reads ≡ []) where
  pub mlb-large : (files : Option Files) (fault : Fault) (new : List File) → IsTooLarge files mlb 0 fault reads new → BreaksFirst files mlb fault new
  mlb-large None fault new h = tt
  mlb-large (Some f) fault new h = λ input same.
      let added : new ≡ h.file ∷ [] = h.added ∙ ap (λ r. r ++ h.file ∷ []) none in
      let has : get f h.file.path ≡ Some h.file.bytes = ap (get f) h.path_is ∙ h.has in
      let large : IsBroken f input (fault_at FilesTooLarge 0 0) (h.file ∷ []) = large_mlb h.file (h.path_is ∙ sym same) has (λ fits. h.no_fit (subst (λ r. Fits r h.file.bytes) (sym none) fits)) in
      subst (λ r. IsBroken f input fault r) (sym added) (subst (λ x. IsBroken f input x (h.file ∷ [])) (sym h.fault_is) large)

  module _ (number : ℕ) (counts : Counts) (new : List File) where
    pub mlb-bad : (files : Option Files) (h : IsFetched files mlb number counts reads new) (bytes : List ℕ) (fault : Fault) → bytes ≡ h.file.bytes → IsNoMlb bytes → fault ≡ fault_at MlbSyntax number 0 → BreaksFirst files mlb fault new
    mlb-bad None h bytes fault are bad is = tt
    mlb-bad (Some f) h bytes fault are bad is = λ input same.
        let added : new ≡ h.file ∷ [] = h.added ∙ ap (λ r. r ++ h.file ∷ []) none in
        let has : get f h.file.path ≡ Some h.file.bytes = ap (get f) h.path_is ∙ h.has in
        let zero : number ≡ 0 = h.number_is ∙ ap length none in
        let fits : Fits [] h.file.bytes = subst (λ r. Fits r h.file.bytes) none h.fits in
        let no : IsNoMlb h.file.bytes = subst IsNoMlb are bad in
        let broken : IsBroken f input (fault_at MlbSyntax 0 0) (h.file ∷ []) = no_mlb h.file (h.path_is ∙ sym same) has fits no in
        subst (λ r. IsBroken f input fault r) (sym added) (subst (λ x. IsBroken f input x (h.file ∷ [])) (sym (is ∙ ap (λ n. fault_at MlbSyntax n 0) zero)) broken)

-- The whole.

module _ (mlb : List ℕ) (items : List Item) (first : Loaded) where
  -- one path more
  pub loads-more : (files : Option Files) (s e : Loaded) (item : Item) (i : ℕ) → i < length items → item ≡ get_or items i item → IfTold files (λ f. Loads f mlb first (take i items) s) → IfTold files (λ f. Loads f mlb s (item ∷ []) e) → IfTold files (λ f. Loads f mlb first (take (i + 1) items) e)
  loads-more None s e item i h is before one = tt
  loads-more (Some f) s e item i h is before one =
      let taken : take i items ++ item ∷ [] ≡ take (i + 1) items = ap (λ x. take i items ++ x ∷ []) is ∙ sym (take_more items i item h) in
      subst (λ x. Loads f mlb first x e) taken (loads-append f mlb first s e (take i items) (item ∷ []) before one)

  module _ (reads : List File) (input : List ℕ) (same : clean input ≡ mlb) (f : Files) (h : IsBegun (Some f) mlb items reads) (start : first ≡ begun h.file) where
    has-mlb : HasMlb f input h.file items
    has-mlb = record { path = h.path_is ∙ sym same; has = ap (get f) h.path_is ∙ h.has; fits = h.fits; is = h.is }

    loads-from : (xs : List Item) (e : Loaded) → Loads f mlb first xs e → Loads f h.file.path (begun h.file) xs e
    loads-from xs e l = subst (λ p. Loads f p (begun h.file) xs e) (sym h.path_is) (subst (λ s. Loads f mlb s xs e) start l)

    comes-to : (s : Loaded) (item : Item) (i : ℕ) → i < length items → item ≡ get_or items i item → Loads f mlb first (take i items) s → ComesTo f input s item
    comes-to s item i l is before =
        let rest : items ≡ take i items ++ item ∷ drop (i + 1) items = sym (take-append-drop i items) ∙ ap (λ x. take i items ++ x) (drop_more items i item l ∙ ap (λ x. x ∷ drop (i + 1) items) (sym is)) in
        record {
          file = h.file;
          before = take i items;
          rest = drop (i + 1) items;
          has_mlb = subst (HasMlb f input h.file) rest has-mlb;
          loads = loads-from (take i items) s before;
        }

    pub project-of : (e : Loaded) (i : ℕ) → length items ≤ i → Loads f mlb first (take i items) e → ProjectOf f input e.names e.parts e.reads
    project-of e i all l = record {
      file = h.file;
      items = items;
      last = e;
      has_mlb = has-mlb;
      loads = loads-from items e (subst (λ x. Loads f mlb first x e) (take_all i items all) l);
      names_are = refl;
      parts_are = refl;
      reads_are = refl;
    }

  module _ (reads : List File) (input : List ℕ) (same : clean input ≡ mlb) where
    module _ (s : Loaded) (item : Item) (i : ℕ) (l : i < length items) (is : item ≡ get_or items i item) where
      pub breaks : (files : Option Files) (h : IsBegun files mlb items reads) → first ≡ begun h.file → IfTold files (λ f. Loads f mlb first (take i items) s) → (fault : Fault) (new : List File) → BreaksAt files mlb s item fault new → IfTold files (λ f. IsBroken f input fault new)
      breaks None h start before fault new at = tt
      breaks (Some f) h start before fault new at = at input same (comes-to reads input same f h start s item i l is before)

      pub misses : (files : Option Files) (h : IsBegun files mlb items reads) → first ≡ begun h.file → IfTold files (λ f. Loads f mlb first (take i items) s) → (missing : List ℕ) → MissesAt files mlb s item missing → IfTold files (λ f. IsMissing f input missing)
      misses None h start before missing at = tt
      misses (Some f) h start before missing at = at input same (comes-to reads input same f h start s item i l is before)

      pub needs : (files : Option Files) (h : IsBegun files mlb items reads) → first ≡ begun h.file → IfTold files (λ f. Loads f mlb first (take i items) s) → (failed : List ℕ) → NeedsAt files mlb s item failed → IfTold files (λ f. IsNeeded f input failed)
      needs None h start before failed at = tt
      needs (Some f) h start before failed at = at input same (comes-to reads input same f h start s item i l is before)

    pub project : (files : Option Files) (h : IsBegun files mlb items reads) → first ≡ begun h.file → (e : Loaded) (i : ℕ) → length items ≤ i → IfTold files (λ f. Loads f mlb first (take i items) e) → IfTold files (λ f. ProjectOf f input e.names e.parts e.reads)
    project None h start e i all l = tt
    project (Some f) h start e i all l = project-of reads input same f h start e i all l

-- The ML Basis file itself.

pub needs-first : (files : Option Files) (mlb input failed : List ℕ) → clean input ≡ mlb → failed ≡ mlb → IfTold files (λ f. IsNeeded f input failed)
needs-first None mlb input failed same e = tt
needs-first (Some f) mlb input failed same e = subst (IsNeeded f input) (same ∙ sym e) the_mlb

pub misses-first : (files : Option Files) (mlb input missing : List ℕ) → clean input ≡ mlb → missing ≡ mlb → HasFile files mlb None → IfTold files (λ f. IsMissing f input missing)
misses-first None mlb input missing same e has = tt
misses-first (Some f) mlb input missing same e has = record { is_needed = needs-first (Some f) mlb input missing same e; has_no_file = ap (get f) e ∙ has }

-- Before the first path.

pub loads-nothing : (files : Option Files) (mlb : List ℕ) (s : Loaded) → IfTold files (λ f. Loads f mlb s [] s)
loads-nothing None mlb s = tt
loads-nothing (Some f) mlb s = no_item s

pub start-is : (names : List (List ℕ)) (fixities : Fixity) (parts : List Part) (reads : List File) (file : File) → names ≡ standard_words → fixities ≡ [] → parts ≡ [] → reads ≡ file ∷ [] →
    record { names = names; fixities = fixities; parts = parts; reads = reads } ≡ begun file
start-is names fixities parts reads file n e h k =
    ap (λ t. record { names = t; fixities = fixities; parts = parts; reads = reads }) n
    ∙ ap (λ f. record { names = standard_words; fixities = f; parts = parts; reads = reads }) e
    ∙ ap (λ p. record { names = standard_words; fixities = []; parts = p; reads = reads }) h
    ∙ ap (λ r. record { names = standard_words; fixities = []; parts = []; reads = r }) k

pub item-is : (xs : List code.Item) (k : ℕ) (x : code.Item) → k < length xs → x ≡ get_or xs k x → item_of x ≡ get_or (map item_of xs) k (item_of x)
item-is xs k x h e = ap item_of e ∙ sym (get_or-map item_of xs k x (item_of x) h)

-- a path's word is ASCII, and lies in the first file
module _ (files : Option Files) (mlb : List ℕ) (items : List Item) (reads : List File) (h : IsBegun files mlb items reads) (k : ℕ) (item : Item) (within : k < length items) (is : item ≡ get_or items k item) where
  is-word : IsWord (length h.file.bytes) item
  is-word = subst (IsWord (length h.file.bytes)) (sym is) (reads-words (length h.file.bytes) 0 h.file.bytes items h.is (omega arith) k item within)

  pub word-ascii-at : All (λ b. b < 128) item.word
  word-ascii-at = is-word.ascii

  pub word-lies : LiesIn (record { file = 0; byte = item.byte }) reads
  word-lies = lies-last (record { file = 0; byte = item.byte }) [] reads h.file h.reads_are refl (omega (arith, is-word.inside)) h.fits.small
