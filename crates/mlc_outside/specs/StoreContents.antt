-- What a store in memory holds: its files, the numbers of the calls that are to fail, and the calls and faults so far.
use Rattle.std.specs.Prelude.{ℕ, List, refl}
use Rattle.std.specs.Coded.{Coded, code_by, coded×, coded_ℕ, coded_list}
use Rattle.std.specs.FinMap as map
use Rattle.mlc_outside.specs.Files.{Files}

pub record StoreContents : Type 0 where
  pub files : Files
  pub fails : List ℕ
  pub calls : ℕ
  pub read_faults : ℕ
  pub write_faults : ℕ

abbrev pub files_code : Coded Files
files_code = map.code (coded_list coded_ℕ) (coded_list coded_ℕ)

abbrev pub store_code : Coded StoreContents
store_code =
    code_by (Files × (List ℕ × (ℕ × (ℕ × ℕ)))) (coded× files_code (coded× (coded_list coded_ℕ) (coded× coded_ℕ (coded× coded_ℕ coded_ℕ))))
    (λ s. (s.files, (s.fails, (s.calls, (s.read_faults, s.write_faults)))))
    (λ p. record { files = p.0; fails = p.1.0; calls = p.1.1.0; read_faults = p.1.1.1.0; write_faults = p.1.1.1.1 }) (λ _. refl)
