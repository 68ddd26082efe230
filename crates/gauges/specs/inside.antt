pub mod GaugeWords
