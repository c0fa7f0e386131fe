-- Modules for examples, and modules that augment them. The latter were written by a script that hands out net numbers and
-- sets down the cells of formulas that were found by hand: it knows nothing of the rules of taint.
use Rattle.std.specs.Prelude.{ℕ, false, List, [], ◌∷◌, codes}
use Rattle.cif_defs.specs.declared.raw_module.ParamValue.TheVariants.{Text}
use Rattle.cif_defs.specs.declared.raw_module.RawParam.{RawParam}
use Rattle.cif_defs.specs.declared.raw_module.RawBit.{RawBit}
use Rattle.cif_defs.specs.declared.raw_module.RawBit.TheVariants.{Net, Zero, One}
use Rattle.cif_defs.specs.declared.raw_module.Connection.{Connection}
use Rattle.cif_defs.specs.declared.raw_module.Direction.{Direction}
use Rattle.cif_defs.specs.declared.raw_module.Direction.TheVariants.{Input, Output}
use Rattle.cif_defs.specs.declared.raw_module.RawPort.{RawPort}
use Rattle.cif_defs.specs.declared.raw_module.RawCell.{RawCell}
use Rattle.cif_defs.specs.declared.raw_module.RawName.{RawName}
use Rattle.cif_defs.specs.declared.raw_module.Raw.{Raw}

abbrev pub param : List ℕ → List ℕ → RawParam
param name value = record { name = name; value = Text value }

abbrev pub joined : List ℕ → List RawBit → Connection
joined name bits = record { name = name; bits = bits }

abbrev pub port : List ℕ → Direction → List RawBit → RawPort
port name direction bits = record { name = name; direction = direction; bits = bits }

abbrev pub net : List ℕ → List RawBit → RawName
net name bits = record { name = name; hide = false; bits = bits; attributes = [] }

abbrev pub cell : List ℕ → List ℕ → List RawParam → List Connection → RawCell
cell name kind parameters connections = record { name = name; hide = false; kind = kind; parameters = parameters; attributes = []; connections = connections }

abbrev pub net_from : List ℕ → List RawBit → List ℕ → RawName
net_from name bits init = record { name = name; hide = false; bits = bits; attributes = param (codes "init") init ∷ [] }

abbrev pub counter_with_taint : Raw
counter_with_taint = record {
  «module» = codes "counter";
  attributes = [];
  ports = port (codes "clk") Input (Net 2 ∷ []) ∷ port (codes "en") Input (Net 4 ∷ []) ∷ port (codes "en__t") Input (Net 13 ∷ []) ∷ port (codes "q") Output (Net 5 ∷ Net 6 ∷ Net 7 ∷ Net 8 ∷ []) ∷ port (codes "q__t") Output (Net 15 ∷ Net 16 ∷ Net 17 ∷ Net 18 ∷ []) ∷ port (codes "rst") Input (Net 3 ∷ []) ∷ port (codes "rst__t") Input (Net 14 ∷ []) ∷ [];
  cells =
      cell (codes "$add$c.v:7$2") (codes "$add") (param (codes "A_SIGNED") (codes "0") ∷ param (codes "A_WIDTH") (codes "100") ∷ param (codes "B_SIGNED") (codes "0") ∷ param (codes "B_WIDTH") (codes "1") ∷ param (codes "Y_WIDTH") (codes "100") ∷ []) (joined (codes "A") (Net 5 ∷ Net 6 ∷ Net 7 ∷ Net 8 ∷ []) ∷ joined (codes "B") (One ∷ []) ∷ joined (codes "Y") (Net 9 ∷ Net 10 ∷ Net 11 ∷ Net 12 ∷ []) ∷ []) ∷
      cell (codes "$add$c.v:7$2__t0") (codes "$or") (param (codes "A_SIGNED") (codes "0") ∷ param (codes "A_WIDTH") (codes "100") ∷ param (codes "B_SIGNED") (codes "0") ∷ param (codes "B_WIDTH") (codes "100") ∷ param (codes "Y_WIDTH") (codes "100") ∷ []) (joined (codes "A") (Net 5 ∷ Net 6 ∷ Net 7 ∷ Net 8 ∷ []) ∷ joined (codes "B") (Net 15 ∷ Net 16 ∷ Net 17 ∷ Net 18 ∷ []) ∷ joined (codes "Y") (Net 19 ∷ Net 20 ∷ Net 21 ∷ Net 22 ∷ []) ∷ []) ∷
      cell (codes "$add$c.v:7$2__t1") (codes "$not") (param (codes "A_SIGNED") (codes "0") ∷ param (codes "A_WIDTH") (codes "100") ∷ param (codes "Y_WIDTH") (codes "100") ∷ []) (joined (codes "A") (Net 15 ∷ Net 16 ∷ Net 17 ∷ Net 18 ∷ []) ∷ joined (codes "Y") (Net 23 ∷ Net 24 ∷ Net 25 ∷ Net 26 ∷ []) ∷ []) ∷
      cell (codes "$add$c.v:7$2__t2") (codes "$and") (param (codes "A_SIGNED") (codes "0") ∷ param (codes "A_WIDTH") (codes "100") ∷ param (codes "B_SIGNED") (codes "0") ∷ param (codes "B_WIDTH") (codes "100") ∷ param (codes "Y_WIDTH") (codes "100") ∷ []) (joined (codes "A") (Net 5 ∷ Net 6 ∷ Net 7 ∷ Net 8 ∷ []) ∷ joined (codes "B") (Net 23 ∷ Net 24 ∷ Net 25 ∷ Net 26 ∷ []) ∷ joined (codes "Y") (Net 27 ∷ Net 28 ∷ Net 29 ∷ Net 30 ∷ []) ∷ []) ∷
      cell (codes "$add$c.v:7$2__t3") (codes "$add") (param (codes "A_SIGNED") (codes "0") ∷ param (codes "A_WIDTH") (codes "100") ∷ param (codes "B_SIGNED") (codes "0") ∷ param (codes "B_WIDTH") (codes "1") ∷ param (codes "Y_WIDTH") (codes "100") ∷ []) (joined (codes "A") (Net 19 ∷ Net 20 ∷ Net 21 ∷ Net 22 ∷ []) ∷ joined (codes "B") (One ∷ []) ∷ joined (codes "Y") (Net 31 ∷ Net 32 ∷ Net 33 ∷ Net 34 ∷ []) ∷ []) ∷
      cell (codes "$add$c.v:7$2__t4") (codes "$xor") (param (codes "A_SIGNED") (codes "0") ∷ param (codes "A_WIDTH") (codes "100") ∷ param (codes "B_SIGNED") (codes "0") ∷ param (codes "B_WIDTH") (codes "100") ∷ param (codes "Y_WIDTH") (codes "100") ∷ []) (joined (codes "A") (Net 31 ∷ Net 32 ∷ Net 33 ∷ Net 34 ∷ []) ∷ joined (codes "B") (Net 19 ∷ Net 20 ∷ Net 21 ∷ Net 22 ∷ []) ∷ joined (codes "Y") (Net 35 ∷ Net 36 ∷ Net 37 ∷ Net 38 ∷ []) ∷ []) ∷
      cell (codes "$add$c.v:7$2__t5") (codes "$add") (param (codes "A_SIGNED") (codes "0") ∷ param (codes "A_WIDTH") (codes "100") ∷ param (codes "B_SIGNED") (codes "0") ∷ param (codes "B_WIDTH") (codes "1") ∷ param (codes "Y_WIDTH") (codes "100") ∷ []) (joined (codes "A") (Net 27 ∷ Net 28 ∷ Net 29 ∷ Net 30 ∷ []) ∷ joined (codes "B") (One ∷ []) ∷ joined (codes "Y") (Net 39 ∷ Net 40 ∷ Net 41 ∷ Net 42 ∷ []) ∷ []) ∷
      cell (codes "$add$c.v:7$2__t6") (codes "$xor") (param (codes "A_SIGNED") (codes "0") ∷ param (codes "A_WIDTH") (codes "100") ∷ param (codes "B_SIGNED") (codes "0") ∷ param (codes "B_WIDTH") (codes "100") ∷ param (codes "Y_WIDTH") (codes "100") ∷ []) (joined (codes "A") (Net 39 ∷ Net 40 ∷ Net 41 ∷ Net 42 ∷ []) ∷ joined (codes "B") (Net 27 ∷ Net 28 ∷ Net 29 ∷ Net 30 ∷ []) ∷ joined (codes "Y") (Net 43 ∷ Net 44 ∷ Net 45 ∷ Net 46 ∷ []) ∷ []) ∷
      cell (codes "$add$c.v:7$2__t7") (codes "$xor") (param (codes "A_SIGNED") (codes "0") ∷ param (codes "A_WIDTH") (codes "100") ∷ param (codes "B_SIGNED") (codes "0") ∷ param (codes "B_WIDTH") (codes "100") ∷ param (codes "Y_WIDTH") (codes "100") ∷ []) (joined (codes "A") (Net 35 ∷ Net 36 ∷ Net 37 ∷ Net 38 ∷ []) ∷ joined (codes "B") (Net 43 ∷ Net 44 ∷ Net 45 ∷ Net 46 ∷ []) ∷ joined (codes "Y") (Net 47 ∷ Net 48 ∷ Net 49 ∷ Net 50 ∷ []) ∷ []) ∷
      cell (codes "$add$c.v:7$2__t8") (codes "$or") (param (codes "A_SIGNED") (codes "0") ∷ param (codes "A_WIDTH") (codes "100") ∷ param (codes "B_SIGNED") (codes "0") ∷ param (codes "B_WIDTH") (codes "100") ∷ param (codes "Y_WIDTH") (codes "100") ∷ []) (joined (codes "A") (Net 15 ∷ Net 16 ∷ Net 17 ∷ Net 18 ∷ []) ∷ joined (codes "B") (Net 47 ∷ Net 48 ∷ Net 49 ∷ Net 50 ∷ []) ∷ joined (codes "Y") (Net 51 ∷ Net 52 ∷ Net 53 ∷ Net 54 ∷ []) ∷ []) ∷
      cell (codes "$procdff$4") (codes "$sdffe") (param (codes "CLK_POLARITY") (codes "1") ∷ param (codes "EN_POLARITY") (codes "1") ∷ param (codes "SRST_POLARITY") (codes "1") ∷ param (codes "SRST_VALUE") (codes "0000") ∷ param (codes "WIDTH") (codes "100") ∷ []) (joined (codes "CLK") (Net 2 ∷ []) ∷ joined (codes "D") (Net 9 ∷ Net 10 ∷ Net 11 ∷ Net 12 ∷ []) ∷ joined (codes "EN") (Net 4 ∷ []) ∷ joined (codes "Q") (Net 5 ∷ Net 6 ∷ Net 7 ∷ Net 8 ∷ []) ∷ joined (codes "SRST") (Net 3 ∷ []) ∷ []) ∷
      cell (codes "$procdff$4__t") (codes "$dff") (param (codes "CLK_POLARITY") (codes "1") ∷ param (codes "WIDTH") (codes "100") ∷ []) (joined (codes "CLK") (Net 2 ∷ []) ∷ joined (codes "D") (Net 87 ∷ Net 88 ∷ Net 89 ∷ Net 90 ∷ []) ∷ joined (codes "Q") (Net 15 ∷ Net 16 ∷ Net 17 ∷ Net 18 ∷ []) ∷ []) ∷
      cell (codes "$procdff$4__t0") (codes "$mux") (param (codes "WIDTH") (codes "100") ∷ []) (joined (codes "A") (Net 5 ∷ Net 6 ∷ Net 7 ∷ Net 8 ∷ []) ∷ joined (codes "B") (Net 9 ∷ Net 10 ∷ Net 11 ∷ Net 12 ∷ []) ∷ joined (codes "S") (Net 4 ∷ []) ∷ joined (codes "Y") (Net 55 ∷ Net 56 ∷ Net 57 ∷ Net 58 ∷ []) ∷ []) ∷
      cell (codes "$procdff$4__t1") (codes "$mux") (param (codes "WIDTH") (codes "100") ∷ []) (joined (codes "A") (Net 15 ∷ Net 16 ∷ Net 17 ∷ Net 18 ∷ []) ∷ joined (codes "B") (Net 51 ∷ Net 52 ∷ Net 53 ∷ Net 54 ∷ []) ∷ joined (codes "S") (Net 4 ∷ []) ∷ joined (codes "Y") (Net 59 ∷ Net 60 ∷ Net 61 ∷ Net 62 ∷ []) ∷ []) ∷
      cell (codes "$procdff$4__t2") (codes "$or") (param (codes "A_SIGNED") (codes "0") ∷ param (codes "A_WIDTH") (codes "100") ∷ param (codes "B_SIGNED") (codes "0") ∷ param (codes "B_WIDTH") (codes "100") ∷ param (codes "Y_WIDTH") (codes "100") ∷ []) (joined (codes "A") (Net 15 ∷ Net 16 ∷ Net 17 ∷ Net 18 ∷ []) ∷ joined (codes "B") (Net 51 ∷ Net 52 ∷ Net 53 ∷ Net 54 ∷ []) ∷ joined (codes "Y") (Net 63 ∷ Net 64 ∷ Net 65 ∷ Net 66 ∷ []) ∷ []) ∷
      cell (codes "$procdff$4__t3") (codes "$xor") (param (codes "A_SIGNED") (codes "0") ∷ param (codes "A_WIDTH") (codes "100") ∷ param (codes "B_SIGNED") (codes "0") ∷ param (codes "B_WIDTH") (codes "100") ∷ param (codes "Y_WIDTH") (codes "100") ∷ []) (joined (codes "A") (Net 5 ∷ Net 6 ∷ Net 7 ∷ Net 8 ∷ []) ∷ joined (codes "B") (Net 9 ∷ Net 10 ∷ Net 11 ∷ Net 12 ∷ []) ∷ joined (codes "Y") (Net 67 ∷ Net 68 ∷ Net 69 ∷ Net 70 ∷ []) ∷ []) ∷
      cell (codes "$procdff$4__t4") (codes "$or") (param (codes "A_SIGNED") (codes "0") ∷ param (codes "A_WIDTH") (codes "100") ∷ param (codes "B_SIGNED") (codes "0") ∷ param (codes "B_WIDTH") (codes "100") ∷ param (codes "Y_WIDTH") (codes "100") ∷ []) (joined (codes "A") (Net 63 ∷ Net 64 ∷ Net 65 ∷ Net 66 ∷ []) ∷ joined (codes "B") (Net 67 ∷ Net 68 ∷ Net 69 ∷ Net 70 ∷ []) ∷ joined (codes "Y") (Net 71 ∷ Net 72 ∷ Net 73 ∷ Net 74 ∷ []) ∷ []) ∷
      cell (codes "$procdff$4__t5") (codes "$mux") (param (codes "WIDTH") (codes "100") ∷ []) (joined (codes "A") (Net 59 ∷ Net 60 ∷ Net 61 ∷ Net 62 ∷ []) ∷ joined (codes "B") (Net 71 ∷ Net 72 ∷ Net 73 ∷ Net 74 ∷ []) ∷ joined (codes "S") (Net 13 ∷ []) ∷ joined (codes "Y") (Net 75 ∷ Net 76 ∷ Net 77 ∷ Net 78 ∷ []) ∷ []) ∷
      cell (codes "$procdff$4__t6") (codes "$mux") (param (codes "WIDTH") (codes "100") ∷ []) (joined (codes "A") (Net 75 ∷ Net 76 ∷ Net 77 ∷ Net 78 ∷ []) ∷ joined (codes "B") (Zero ∷ Zero ∷ Zero ∷ Zero ∷ []) ∷ joined (codes "S") (Net 3 ∷ []) ∷ joined (codes "Y") (Net 79 ∷ Net 80 ∷ Net 81 ∷ Net 82 ∷ []) ∷ []) ∷
      cell (codes "$procdff$4__t7") (codes "$or") (param (codes "A_SIGNED") (codes "0") ∷ param (codes "A_WIDTH") (codes "100") ∷ param (codes "B_SIGNED") (codes "0") ∷ param (codes "B_WIDTH") (codes "100") ∷ param (codes "Y_WIDTH") (codes "100") ∷ []) (joined (codes "A") (Net 75 ∷ Net 76 ∷ Net 77 ∷ Net 78 ∷ []) ∷ joined (codes "B") (Net 55 ∷ Net 56 ∷ Net 57 ∷ Net 58 ∷ []) ∷ joined (codes "Y") (Net 83 ∷ Net 84 ∷ Net 85 ∷ Net 86 ∷ []) ∷ []) ∷
      cell (codes "$procdff$4__t8") (codes "$mux") (param (codes "WIDTH") (codes "100") ∷ []) (joined (codes "A") (Net 79 ∷ Net 80 ∷ Net 81 ∷ Net 82 ∷ []) ∷ joined (codes "B") (Net 83 ∷ Net 84 ∷ Net 85 ∷ Net 86 ∷ []) ∷ joined (codes "S") (Net 14 ∷ []) ∷ joined (codes "Y") (Net 87 ∷ Net 88 ∷ Net 89 ∷ Net 90 ∷ []) ∷ []) ∷
      cell (codes "u0") (codes "$scopeinfo") ([]) ([]) ∷
      [];
  names = net (codes "clk") (Net 2 ∷ []) ∷ net (codes "en") (Net 4 ∷ []) ∷ net (codes "en__t") (Net 13 ∷ []) ∷ net (codes "q") (Net 5 ∷ Net 6 ∷ Net 7 ∷ Net 8 ∷ []) ∷ net (codes "q__t") (Net 15 ∷ Net 16 ∷ Net 17 ∷ Net 18 ∷ []) ∷ net (codes "rst") (Net 3 ∷ []) ∷ net (codes "rst__t") (Net 14 ∷ []) ∷ [];
}

abbrev pub memory : Raw
memory = record {
  «module» = codes "m";
  attributes = [];
  ports = port (codes "clk") Input (Net 2 ∷ []) ∷ port (codes "ra") Input (Net 3 ∷ Net 4 ∷ []) ∷ port (codes "rd") Output (Net 11 ∷ Net 12 ∷ []) ∷ port (codes "wa") Input (Net 5 ∷ Net 6 ∷ []) ∷ port (codes "wd") Input (Net 7 ∷ Net 8 ∷ []) ∷ port (codes "we") Input (Net 9 ∷ Net 10 ∷ []) ∷ [];
  cells =
      cell (codes "c") (codes "$mem_v2") (param (codes "ABITS") (codes "10") ∷ param (codes "INIT") (codes "x") ∷ param (codes "MEMID") (codes "mem") ∷ param (codes "OFFSET") (codes "0") ∷ param (codes "RD_CLK_ENABLE") (codes "0") ∷ param (codes "RD_PORTS") (codes "1") ∷ param (codes "RD_WIDE_CONTINUATION") (codes "0") ∷ param (codes "SIZE") (codes "100") ∷ param (codes "WIDTH") (codes "10") ∷ param (codes "WR_CLK_ENABLE") (codes "1") ∷ param (codes "WR_CLK_POLARITY") (codes "1") ∷ param (codes "WR_PORTS") (codes "1") ∷ param (codes "WR_WIDE_CONTINUATION") (codes "0") ∷ []) (joined (codes "RD_ADDR") (Net 3 ∷ Net 4 ∷ []) ∷ joined (codes "RD_DATA") (Net 11 ∷ Net 12 ∷ []) ∷ joined (codes "WR_ADDR") (Net 5 ∷ Net 6 ∷ []) ∷ joined (codes "WR_CLK") (Net 2 ∷ []) ∷ joined (codes "WR_DATA") (Net 7 ∷ Net 8 ∷ []) ∷ joined (codes "WR_EN") (Net 9 ∷ Net 10 ∷ []) ∷ []) ∷
      [];
  names = [];
}

abbrev pub memory_with_taint : Raw
memory_with_taint = record {
  «module» = codes "m";
  attributes = [];
  ports = port (codes "clk") Input (Net 2 ∷ []) ∷ port (codes "ra") Input (Net 3 ∷ Net 4 ∷ []) ∷ port (codes "ra__t") Input (Net 13 ∷ Net 14 ∷ []) ∷ port (codes "rd") Output (Net 11 ∷ Net 12 ∷ []) ∷ port (codes "rd__t") Output (Net 37 ∷ Net 38 ∷ []) ∷ port (codes "wa") Input (Net 5 ∷ Net 6 ∷ []) ∷ port (codes "wa__t") Input (Net 15 ∷ Net 16 ∷ []) ∷ port (codes "wd") Input (Net 7 ∷ Net 8 ∷ []) ∷ port (codes "wd__t") Input (Net 17 ∷ Net 18 ∷ []) ∷ port (codes "we") Input (Net 9 ∷ Net 10 ∷ []) ∷ port (codes "we__t") Input (Net 19 ∷ Net 20 ∷ []) ∷ [];
  cells =
      cell (codes "c") (codes "$mem_v2") (param (codes "ABITS") (codes "10") ∷ param (codes "INIT") (codes "x") ∷ param (codes "MEMID") (codes "mem") ∷ param (codes "OFFSET") (codes "0") ∷ param (codes "RD_CLK_ENABLE") (codes "0") ∷ param (codes "RD_PORTS") (codes "1") ∷ param (codes "RD_WIDE_CONTINUATION") (codes "0") ∷ param (codes "SIZE") (codes "100") ∷ param (codes "WIDTH") (codes "10") ∷ param (codes "WR_CLK_ENABLE") (codes "1") ∷ param (codes "WR_CLK_POLARITY") (codes "1") ∷ param (codes "WR_PORTS") (codes "1") ∷ param (codes "WR_WIDE_CONTINUATION") (codes "0") ∷ []) (joined (codes "RD_ADDR") (Net 3 ∷ Net 4 ∷ []) ∷ joined (codes "RD_DATA") (Net 11 ∷ Net 12 ∷ []) ∷ joined (codes "WR_ADDR") (Net 5 ∷ Net 6 ∷ []) ∷ joined (codes "WR_CLK") (Net 2 ∷ []) ∷ joined (codes "WR_DATA") (Net 7 ∷ Net 8 ∷ []) ∷ joined (codes "WR_EN") (Net 9 ∷ Net 10 ∷ []) ∷ []) ∷
      cell (codes "c__flag") (codes "$dff") (param (codes "CLK_POLARITY") (codes "1") ∷ param (codes "WIDTH") (codes "1") ∷ []) (joined (codes "CLK") (Net 2 ∷ []) ∷ joined (codes "D") (Net 34 ∷ []) ∷ joined (codes "Q") (Net 23 ∷ []) ∷ []) ∷
      cell (codes "c__t") (codes "$mem_v2") (param (codes "ABITS") (codes "10") ∷ param (codes "INIT") (codes "0") ∷ param (codes "MEMID") (codes "c__t") ∷ param (codes "OFFSET") (codes "0") ∷ param (codes "RD_CLK_ENABLE") (codes "0") ∷ param (codes "RD_PORTS") (codes "1") ∷ param (codes "RD_WIDE_CONTINUATION") (codes "0") ∷ param (codes "SIZE") (codes "100") ∷ param (codes "WIDTH") (codes "10") ∷ param (codes "WR_CLK_ENABLE") (codes "1") ∷ param (codes "WR_CLK_POLARITY") (codes "1") ∷ param (codes "WR_PORTS") (codes "1") ∷ param (codes "WR_WIDE_CONTINUATION") (codes "0") ∷ []) (joined (codes "RD_ADDR") (Net 3 ∷ Net 4 ∷ []) ∷ joined (codes "RD_DATA") (Net 21 ∷ Net 22 ∷ []) ∷ joined (codes "WR_ADDR") (Net 5 ∷ Net 6 ∷ []) ∷ joined (codes "WR_CLK") (Net 2 ∷ []) ∷ joined (codes "WR_DATA") (Net 30 ∷ Net 31 ∷ []) ∷ joined (codes "WR_EN") (Net 28 ∷ Net 29 ∷ []) ∷ []) ∷
      cell (codes "c__t0") (codes "$reduce_or") (param (codes "A_SIGNED") (codes "0") ∷ param (codes "A_WIDTH") (codes "10") ∷ param (codes "Y_WIDTH") (codes "1") ∷ []) (joined (codes "A") (Net 15 ∷ Net 16 ∷ []) ∷ joined (codes "Y") (Net 24 ∷ []) ∷ []) ∷
      cell (codes "c__t1") (codes "$or") (param (codes "A_SIGNED") (codes "0") ∷ param (codes "A_WIDTH") (codes "10") ∷ param (codes "B_SIGNED") (codes "0") ∷ param (codes "B_WIDTH") (codes "10") ∷ param (codes "Y_WIDTH") (codes "10") ∷ []) (joined (codes "A") (Net 9 ∷ Net 10 ∷ []) ∷ joined (codes "B") (Net 19 ∷ Net 20 ∷ []) ∷ joined (codes "Y") (Net 25 ∷ Net 26 ∷ []) ∷ []) ∷
      cell (codes "c__t10") (codes "$or") (param (codes "A_SIGNED") (codes "0") ∷ param (codes "A_WIDTH") (codes "10") ∷ param (codes "B_SIGNED") (codes "0") ∷ param (codes "B_WIDTH") (codes "10") ∷ param (codes "Y_WIDTH") (codes "10") ∷ []) (joined (codes "A") (Net 21 ∷ Net 22 ∷ []) ∷ joined (codes "B") (Net 36 ∷ Net 36 ∷ []) ∷ joined (codes "Y") (Net 37 ∷ Net 38 ∷ []) ∷ []) ∷
      cell (codes "c__t2") (codes "$not") (param (codes "A_SIGNED") (codes "0") ∷ param (codes "A_WIDTH") (codes "1") ∷ param (codes "Y_WIDTH") (codes "1") ∷ []) (joined (codes "A") (Net 24 ∷ []) ∷ joined (codes "Y") (Net 27 ∷ []) ∷ []) ∷
      cell (codes "c__t3") (codes "$and") (param (codes "A_SIGNED") (codes "0") ∷ param (codes "A_WIDTH") (codes "10") ∷ param (codes "B_SIGNED") (codes "0") ∷ param (codes "B_WIDTH") (codes "10") ∷ param (codes "Y_WIDTH") (codes "10") ∷ []) (joined (codes "A") (Net 25 ∷ Net 26 ∷ []) ∷ joined (codes "B") (Net 27 ∷ Net 27 ∷ []) ∷ joined (codes "Y") (Net 28 ∷ Net 29 ∷ []) ∷ []) ∷
      cell (codes "c__t4") (codes "$or") (param (codes "A_SIGNED") (codes "0") ∷ param (codes "A_WIDTH") (codes "10") ∷ param (codes "B_SIGNED") (codes "0") ∷ param (codes "B_WIDTH") (codes "10") ∷ param (codes "Y_WIDTH") (codes "10") ∷ []) (joined (codes "A") (Net 17 ∷ Net 18 ∷ []) ∷ joined (codes "B") (Net 19 ∷ Net 20 ∷ []) ∷ joined (codes "Y") (Net 30 ∷ Net 31 ∷ []) ∷ []) ∷
      cell (codes "c__t5") (codes "$reduce_or") (param (codes "A_SIGNED") (codes "0") ∷ param (codes "A_WIDTH") (codes "10") ∷ param (codes "Y_WIDTH") (codes "1") ∷ []) (joined (codes "A") (Net 25 ∷ Net 26 ∷ []) ∷ joined (codes "Y") (Net 32 ∷ []) ∷ []) ∷
      cell (codes "c__t6") (codes "$and") (param (codes "A_SIGNED") (codes "0") ∷ param (codes "A_WIDTH") (codes "1") ∷ param (codes "B_SIGNED") (codes "0") ∷ param (codes "B_WIDTH") (codes "1") ∷ param (codes "Y_WIDTH") (codes "1") ∷ []) (joined (codes "A") (Net 24 ∷ []) ∷ joined (codes "B") (Net 32 ∷ []) ∷ joined (codes "Y") (Net 33 ∷ []) ∷ []) ∷
      cell (codes "c__t7") (codes "$or") (param (codes "A_SIGNED") (codes "0") ∷ param (codes "A_WIDTH") (codes "1") ∷ param (codes "B_SIGNED") (codes "0") ∷ param (codes "B_WIDTH") (codes "1") ∷ param (codes "Y_WIDTH") (codes "1") ∷ []) (joined (codes "A") (Net 23 ∷ []) ∷ joined (codes "B") (Net 33 ∷ []) ∷ joined (codes "Y") (Net 34 ∷ []) ∷ []) ∷
      cell (codes "c__t8") (codes "$reduce_or") (param (codes "A_SIGNED") (codes "0") ∷ param (codes "A_WIDTH") (codes "10") ∷ param (codes "Y_WIDTH") (codes "1") ∷ []) (joined (codes "A") (Net 13 ∷ Net 14 ∷ []) ∷ joined (codes "Y") (Net 35 ∷ []) ∷ []) ∷
      cell (codes "c__t9") (codes "$or") (param (codes "A_SIGNED") (codes "0") ∷ param (codes "A_WIDTH") (codes "1") ∷ param (codes "B_SIGNED") (codes "0") ∷ param (codes "B_WIDTH") (codes "1") ∷ param (codes "Y_WIDTH") (codes "1") ∷ []) (joined (codes "A") (Net 35 ∷ []) ∷ joined (codes "B") (Net 23 ∷ []) ∷ joined (codes "Y") (Net 36 ∷ []) ∷ []) ∷
      [];
  names = net (codes "ra__t") (Net 13 ∷ Net 14 ∷ []) ∷ net (codes "rd__t") (Net 37 ∷ Net 38 ∷ []) ∷ net (codes "wa__t") (Net 15 ∷ Net 16 ∷ []) ∷ net (codes "wd__t") (Net 17 ∷ Net 18 ∷ []) ∷ net (codes "we__t") (Net 19 ∷ Net 20 ∷ []) ∷ [];
}

abbrev pub reset_register : Raw
reset_register = record {
  «module» = codes "m";
  attributes = [];
  ports = port (codes "arst") Input (Net 5 ∷ []) ∷ port (codes "clk") Input (Net 2 ∷ []) ∷ port (codes "d") Input (Net 3 ∷ Net 4 ∷ []) ∷ port (codes "q") Output (Net 6 ∷ Net 7 ∷ []) ∷ [];
  cells =
      cell (codes "r") (codes "$adff") (param (codes "ARST_POLARITY") (codes "1") ∷ param (codes "ARST_VALUE") (codes "10") ∷ param (codes "CLK_POLARITY") (codes "1") ∷ param (codes "WIDTH") (codes "10") ∷ []) (joined (codes "ARST") (Net 5 ∷ []) ∷ joined (codes "CLK") (Net 2 ∷ []) ∷ joined (codes "D") (Net 3 ∷ Net 4 ∷ []) ∷ joined (codes "Q") (Net 6 ∷ Net 7 ∷ []) ∷ []) ∷
      [];
  names = [];
}

abbrev pub reset_register_with_taint : Raw
reset_register_with_taint = record {
  «module» = codes "m";
  attributes = [];
  ports = port (codes "arst") Input (Net 5 ∷ []) ∷ port (codes "arst__t") Input (Net 22 ∷ []) ∷ port (codes "clk") Input (Net 2 ∷ []) ∷ port (codes "d") Input (Net 3 ∷ Net 4 ∷ []) ∷ port (codes "d__t") Input (Net 20 ∷ Net 21 ∷ []) ∷ port (codes "q") Output (Net 6 ∷ Net 7 ∷ []) ∷ port (codes "q__t") Output (Net 41 ∷ Net 42 ∷ []) ∷ [];
  cells =
      cell (codes "r") (codes "$adff") (param (codes "ARST_POLARITY") (codes "1") ∷ param (codes "ARST_VALUE") (codes "10") ∷ param (codes "CLK_POLARITY") (codes "1") ∷ param (codes "WIDTH") (codes "10") ∷ []) (joined (codes "ARST") (Net 5 ∷ []) ∷ joined (codes "CLK") (Net 2 ∷ []) ∷ joined (codes "D") (Net 3 ∷ Net 4 ∷ []) ∷ joined (codes "Q") (Net 6 ∷ Net 7 ∷ []) ∷ []) ∷
      cell (codes "r__t") (codes "$dff") (param (codes "CLK_POLARITY") (codes "1") ∷ param (codes "WIDTH") (codes "10") ∷ []) (joined (codes "CLK") (Net 2 ∷ []) ∷ joined (codes "D") (Net 33 ∷ Net 34 ∷ []) ∷ joined (codes "Q") (Net 23 ∷ Net 24 ∷ []) ∷ []) ∷
      cell (codes "r__t0") (codes "$mux") (param (codes "WIDTH") (codes "10") ∷ []) (joined (codes "A") (Net 20 ∷ Net 21 ∷ []) ∷ joined (codes "B") (Zero ∷ Zero ∷ []) ∷ joined (codes "S") (Net 5 ∷ []) ∷ joined (codes "Y") (Net 27 ∷ Net 28 ∷ []) ∷ []) ∷
      cell (codes "r__t1") (codes "$xor") (param (codes "A_SIGNED") (codes "0") ∷ param (codes "A_WIDTH") (codes "10") ∷ param (codes "B_SIGNED") (codes "0") ∷ param (codes "B_WIDTH") (codes "10") ∷ param (codes "Y_WIDTH") (codes "10") ∷ []) (joined (codes "A") (Net 3 ∷ Net 4 ∷ []) ∷ joined (codes "B") (Zero ∷ One ∷ []) ∷ joined (codes "Y") (Net 29 ∷ Net 30 ∷ []) ∷ []) ∷
      cell (codes "r__t2") (codes "$or") (param (codes "A_SIGNED") (codes "0") ∷ param (codes "A_WIDTH") (codes "10") ∷ param (codes "B_SIGNED") (codes "0") ∷ param (codes "B_WIDTH") (codes "10") ∷ param (codes "Y_WIDTH") (codes "10") ∷ []) (joined (codes "A") (Net 20 ∷ Net 21 ∷ []) ∷ joined (codes "B") (Net 29 ∷ Net 30 ∷ []) ∷ joined (codes "Y") (Net 31 ∷ Net 32 ∷ []) ∷ []) ∷
      cell (codes "r__t3") (codes "$mux") (param (codes "WIDTH") (codes "10") ∷ []) (joined (codes "A") (Net 27 ∷ Net 28 ∷ []) ∷ joined (codes "B") (Net 31 ∷ Net 32 ∷ []) ∷ joined (codes "S") (Net 22 ∷ []) ∷ joined (codes "Y") (Net 33 ∷ Net 34 ∷ []) ∷ []) ∷
      cell (codes "r__t4") (codes "$mux") (param (codes "WIDTH") (codes "10") ∷ []) (joined (codes "A") (Net 23 ∷ Net 24 ∷ []) ∷ joined (codes "B") (Zero ∷ Zero ∷ []) ∷ joined (codes "S") (Net 5 ∷ []) ∷ joined (codes "Y") (Net 35 ∷ Net 36 ∷ []) ∷ []) ∷
      cell (codes "r__t5") (codes "$xor") (param (codes "A_SIGNED") (codes "0") ∷ param (codes "A_WIDTH") (codes "10") ∷ param (codes "B_SIGNED") (codes "0") ∷ param (codes "B_WIDTH") (codes "10") ∷ param (codes "Y_WIDTH") (codes "10") ∷ []) (joined (codes "A") (Net 25 ∷ Net 26 ∷ []) ∷ joined (codes "B") (Zero ∷ One ∷ []) ∷ joined (codes "Y") (Net 37 ∷ Net 38 ∷ []) ∷ []) ∷
      cell (codes "r__t6") (codes "$or") (param (codes "A_SIGNED") (codes "0") ∷ param (codes "A_WIDTH") (codes "10") ∷ param (codes "B_SIGNED") (codes "0") ∷ param (codes "B_WIDTH") (codes "10") ∷ param (codes "Y_WIDTH") (codes "10") ∷ []) (joined (codes "A") (Net 23 ∷ Net 24 ∷ []) ∷ joined (codes "B") (Net 37 ∷ Net 38 ∷ []) ∷ joined (codes "Y") (Net 39 ∷ Net 40 ∷ []) ∷ []) ∷
      cell (codes "r__t7") (codes "$mux") (param (codes "WIDTH") (codes "10") ∷ []) (joined (codes "A") (Net 35 ∷ Net 36 ∷ []) ∷ joined (codes "B") (Net 39 ∷ Net 40 ∷ []) ∷ joined (codes "S") (Net 22 ∷ []) ∷ joined (codes "Y") (Net 41 ∷ Net 42 ∷ []) ∷ []) ∷
      cell (codes "r__v") (codes "$sdff") (param (codes "CLK_POLARITY") (codes "1") ∷ param (codes "SRST_POLARITY") (codes "1") ∷ param (codes "SRST_VALUE") (codes "10") ∷ param (codes "WIDTH") (codes "10") ∷ []) (joined (codes "CLK") (Net 2 ∷ []) ∷ joined (codes "D") (Net 3 ∷ Net 4 ∷ []) ∷ joined (codes "Q") (Net 25 ∷ Net 26 ∷ []) ∷ joined (codes "SRST") (Net 5 ∷ []) ∷ []) ∷
      [];
  names = net (codes "arst__t") (Net 22 ∷ []) ∷ net (codes "d__t") (Net 20 ∷ Net 21 ∷ []) ∷ net (codes "q__t") (Net 41 ∷ Net 42 ∷ []) ∷ net_from (codes "r__v") (Net 25 ∷ Net 26 ∷ []) (codes "00") ∷ [];
}
