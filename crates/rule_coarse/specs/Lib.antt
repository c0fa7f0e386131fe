pub mod CoarseFormulas
