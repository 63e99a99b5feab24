-- Files that were read, which only get more.
use Rattle.std.proofs.Common.{◌≡◌, ℕ, ◌≤◌, List, [], ◌∷◌, ◌++◌, length, Option, Some, None, option_map, refl, ap, subst, sym, ◌∙◌, slice_get, arith, append-nil, append_assoc, length-append}
use Rattle.std.proofs.Math.Seq.{get_or-append_seam}
use Rattle.std.proofs.lemmas.List.{get_or_append_left}
use Rattle.std.proofs.lemmas.Option.{slice_get_within, slice_get-get_or, get_or_from_slice_get}
use Rattle.mlc_faults.specs.File.{File}
use Rattle.mlc_faults.specs.Files.{LiesIn, LiesInFile}
use Rattle.mlc_faults.specs.declared.code.Code.{Code}
use Rattle.mlc_faults.specs.declared.fault.Fault.{Fault}
use Rattle.mlc_base.specs.declared.place.Place.{Place}
use Rattle.mlb_reader.specs.Broken.{fault_at}
use Rattle.mlb_reader.specs.Project.{most_bytes}
use Rattle.mlb_reader.specs.Loading.{Grows}

pub got-later : {X : Type 0} (xs ys : List X) (n : ℕ) (x : X) → slice_get xs n ≡ Some x → slice_get (xs ++ ys) n ≡ Some x
got-later xs ys n x e =
    let within = slice_get_within xs n x e in
    slice_get-get_or (xs ++ ys) n x (omega (arith, within, length-append xs ys)) ∙ ap Some (get_or_append_left xs ys x n within ∙ get_or_from_slice_get xs n x x e)

pub got-last : {X : Type 0} (xs : List X) (x : X) → slice_get (xs ++ x ∷ []) (length xs) ≡ Some x
got-last xs x = slice_get-get_or (xs ++ x ∷ []) (length xs) x (omega (arith, length-append xs (x ∷ []))) ∙ ap Some (get_or-append_seam xs x [] x)

pub grows-same : (a : List File) → Grows a a
grows-same a = record { more = []; are = sym (append-nil a) }

pub grows-on : (a b c : List File) → Grows a b → Grows b c → Grows a c
grows-on a b c h k = record { more = h.more ++ k.more; are = k.are ∙ ap (λ x. x ++ k.more) h.are ∙ append_assoc a h.more k.more }

pub grows-one : (a b : List File) (file : File) → b ≡ a ++ file ∷ [] → Grows a b
grows-one a b file e = record { more = file ∷ []; are = e }

lies-later : (byte file : ℕ) (a more : List File) (o : Option File) → slice_get a file ≡ o → LiesInFile byte o → LiesInFile byte (slice_get (a ++ more) file)
lies-later byte file a more None e h = absurd h
lies-later byte file a more (Some x) e h = subst (LiesInFile byte) (sym (got-later a more file x e)) h

pub lies-grown : (place : Place) (a b : List File) → Grows a b → LiesIn place a → LiesIn place b
lies-grown place a b h lies = (subst (λ x. LiesInFile place.byte (slice_get x place.file)) (sym h.are) (lies-later place.byte place.file a h.more (slice_get a place.file) refl lies.0), lies.1)

pub lies-at : (place : Place) (files : List File) (file byte : ℕ) → place.file ≡ file → place.byte ≡ byte → LiesIn (record { file = file; byte = byte }) files → LiesIn place files
lies-at place files file byte e h lies = (subst (λ n. LiesInFile place.byte (slice_get files n)) (sym e) (subst (λ b. LiesInFile b (slice_get files file)) (sym h) lies.0), omega (arith, h, lies.1))

-- a fault at a byte of the ML Basis file
pub lies-fault : {code : Code} (fault : Fault) (old new : List File) (byte : ℕ) → Grows old new → LiesIn (record { file = 0; byte = byte }) old → fault ≡ fault_at code 0 byte → LiesIn fault.place new
lies-fault fault old new byte grows lies e = subst (λ (f : Fault). LiesIn f.place new) (sym e) (lies-grown (record { file = 0; byte = byte }) old new grows lies)

-- a place of the file that was read last
pub lies-last : (place : Place) (old new : List File) (file : File) → new ≡ old ++ file ∷ [] → place.file ≡ length old → place.byte ≤ length file.bytes → length file.bytes ≤ most_bytes → LiesIn place new
lies-last place old new file e at within small =
    let got : slice_get new place.file ≡ Some file = ap (λ x. slice_get x place.file) e ∙ ap (slice_get (old ++ file ∷ [])) at ∙ got-last old file in
    (subst (LiesInFile place.byte) (sym got) within, omega arith)

-- the bytes of the file that was read last
pub last-bytes : (old new : List File) (file : File) (number : ℕ) (bytes : List ℕ) → new ≡ old ++ file ∷ [] → number ≡ length old → option_map (λ (f : File). f.bytes) (slice_get new number) ≡ Some bytes → bytes ≡ file.bytes
last-bytes old new file number bytes e at is =
    let got : slice_get new number ≡ Some file = ap (λ x. slice_get x number) e ∙ ap (slice_get (old ++ file ∷ [])) at ∙ got-last old file in
    let both : Some bytes ≡ Some file.bytes = sym is ∙ ap (option_map (λ (f : File). f.bytes)) got in
    cc
